-- The longest word, the longest note and the longest reference at the front of some bytes.
use Rattle.dl_lexer.proofs.Common.{ℕ, zero, suc, ◌≡◌, ◌≢◌, ◌∙◌, ◌+◌, ◌<◌, ◌≤◌, List, [], ◌∷◌, ◌++◌, length, take, drop, true, false, refl, sym, ap, arith, append_assoc, length-append, Some, slice_get, subst, list_all, prefix_len, take-append-add, take-append-drop, length-take-le, prefix_len-le-length, slice_get_within, is_word_byte, begins_with_letter, IsWord, IsNote, note, IsRef, ref, IsLongest, and_parts, codes, take-append_seam, is_note_byte}
use Rattle.dl_lexer.proofs.Prefix.{prefix_passes, prefix_most, prefix_ends, take_around, get_behind}
use Rattle.dl_lexer.proofs.Longest.{longest_none}

-- a start of the bytes begins as they do
pub begins_take : (m : ℕ) (bytes : List ℕ) → 0 < m → begins_with_letter (take m bytes) ≡ begins_with_letter bytes
begins_take zero bytes h = absurd (omega arith)
begins_take (suc m) [] h = refl
begins_take (suc m) (b ∷ bytes) h = refl

-- a word begins with a letter, and its bytes are all such as a word goes on with
pub word_parts : (bs : List ℕ) → IsWord bs → (begins_with_letter bs ≡ true) × (list_all is_word_byte bs ≡ true)
word_parts bs h = and_parts (begins_with_letter bs) (list_all is_word_byte bs) h

pub word_longest : (bytes : List ℕ) (n : ℕ) → begins_with_letter bytes ≡ true → n ≡ prefix_len is_word_byte bytes
    → IsLongest IsWord bytes n
word_longest bytes n letter count = record {
  within = omega (arith, prefix_len-le-length is_word_byte bytes);
  spelled = λ some. rw (begins_take n bytes some ∙ letter) (rw count (prefix_passes is_word_byte bytes));
  longest = λ m h t. let most : m ≤ prefix_len is_word_byte bytes =
      prefix_most is_word_byte bytes m h (word_parts (take m bytes) t).1 in omega arith;
}

-- where a letter begins the bytes a word does
pub word_some : (bytes : List ℕ) (w : ℕ) → begins_with_letter bytes ≡ true → IsLongest IsWord bytes w → 0 < w
word_some [] w h word = absurd cc
word_some (b ∷ bytes) w h word = let one : 1 ≤ w = word.longest 1 (omega arith) (rw h refl) in omega arith

pub word_none : (bytes : List ℕ) → begins_with_letter bytes ≡ false → IsLongest IsWord bytes 0
word_none bytes other = longest_none IsWord bytes no_word
  where
    no_word : (m : ℕ) → m ≤ length bytes → IsWord (take m bytes) → ⊥
    no_word zero h t = cc
    no_word (suc m) h t =
        let yes : begins_with_letter (take (suc m) bytes) ≡ true = (word_parts (take (suc m) bytes) t).0 in
        let same : begins_with_letter (take (suc m) bytes) ≡ begins_with_letter bytes =
        begins_take (suc m) bytes (omega arith) in cc

-- a note at the front: its text, and what stands behind it
record IsNoteAt (text : List ℕ) (m : ℕ) : Type 0 where
  pub count : m ≡ prefix_len is_note_byte text + 6
  pub mark : slice_get text (prefix_len is_note_byte text) ≡ Some 125

behind_note : (text inside after : List ℕ)
    → codes "note{" ++ text ≡ (codes "note{" ++ inside ++ 125 ∷ []) ++ after → text ≡ inside ++ 125 ∷ after
behind_note text inside after e = grind (arith, append_assoc inside (125 ∷ []) after)

note_at : (text : List ℕ) (m : ℕ) → m ≤ length
    (codes "note{" ++ text) → IsNote (take m (codes "note{" ++ text)) → IsNoteAt text m
note_at text m h (note inside e all) =
    let bytes : List ℕ = codes "note{" ++ text in
    let after : List ℕ = drop m bytes in
    let split : text ≡ inside ++ 125 ∷ after =
    behind_note text inside after (sym (take-append-drop m bytes) ∙ ap (λ ys. ys ++ after) e) in
    let size : prefix_len is_note_byte text ≡ length inside = ap (prefix_len is_note_byte) split
    ∙ prefix_ends is_note_byte 125 inside after refl all in
    let here : slice_get text (length inside) ≡ Some 125 = ap (λ ys. slice_get ys (length inside)) split
    ∙ get_behind inside after 125 in
    record {
      count = omega (arith, ap length e, length-take-le m bytes h, length-append inside (125 ∷ []));
      mark = subst (λ n. slice_get text n ≡ Some 125) (sym size) here;
    }

pub note_closed : (text : List ℕ) (n : ℕ) → n ≡ prefix_len is_note_byte text → slice_get text n ≡ Some 125
    → IsLongest IsNote (codes "note{" ++ text) (n + 6)
note_closed text n count mark = record {
  within = omega (arith, slice_get_within text n 125 mark);
  spelled = λ _. rw whole (note (take n text) refl inside);
  longest = λ m h t. let at = note_at text m h t in omega (arith, at.count, count);
}
  where
    inside : list_all is_note_byte (take n text) ≡ true
    inside = rw count (prefix_passes is_note_byte text)

    whole : take (n + 6) (codes "note{" ++ text) ≡ codes "note{" ++ take n text ++ 125 ∷ []
    whole =
        let size : n + 6 ≡ 5 + (n + 1 + 0) = omega arith in
        ap (λ k. take k (codes "note{" ++ text)) size
        ∙ take-append-add (codes "note{") text (n + 1 + 0)
        ∙ ap (λ ys. codes "note{" ++ ys) (take_around text n 125 0 mark)

pub note_open : (text : List ℕ) (n : ℕ) → n ≡ prefix_len is_note_byte text → slice_get text n ≢ Some 125
    → IsLongest IsNote (codes "note{" ++ text) 0
note_open text n count other = longest_none IsNote
    (codes "note{" ++ text) (λ m h t. other
    (subst (λ k. slice_get text k ≡ Some 125) (sym count) (note_at text m h t).mark))

-- a note begins with its word and a brace
pub note_none : (bytes : List ℕ) → ((text : List ℕ) → bytes ≢ codes "note{" ++ text) → IsLongest IsNote bytes 0
note_none bytes other = longest_none IsNote bytes no_note
  where
    no_note : (m : ℕ) → m ≤ length bytes → IsNote (take m bytes) → ⊥
    no_note m h (note inside e all) =
        other ((inside ++ 125 ∷ []) ++ drop m bytes)
        (sym (take-append-drop m bytes) ∙ ap (λ ys. ys ++ drop m bytes) e
        ∙ append_assoc (codes "note{") (inside ++ 125 ∷ []) (drop m bytes))

-- a reference at the front: how long its name is, which is a word
record IsRefAt (name : List ℕ) (m : ℕ) : Type 0 where
  pub size : ℕ
  pub count : m ≡ size + 4
  pub some : 0 < size
  pub within : size ≤ length name
  pub word : IsWord (take size name)

behind_sev : (name inside after : List ℕ) → codes "sev." ++ name ≡ (codes "sev." ++ inside) ++ after
    → name ≡ inside ++ after
behind_sev name inside after e = cc

word_length_some : (bs : List ℕ) → IsWord bs → 0 < length bs
word_length_some [] w = cc
word_length_some (b ∷ bs) w = omega arith

ref_at : (name : List ℕ) (m : ℕ) → m ≤ length (codes "sev." ++ name) → IsRef (take m (codes "sev." ++ name))
    → IsRefAt name m
ref_at name m h (ref inside e w) =
    let bytes : List ℕ = codes "sev." ++ name in
    let after : List ℕ = drop m bytes in
    let split : name ≡ inside ++ after =
    behind_sev name inside after (sym (take-append-drop m bytes) ∙ ap (λ ys. ys ++ after) e) in
    let here : take (length inside) name ≡ inside = ap (take (length inside)) split ∙ take-append_seam inside after in
    record {
      size = length inside;
      count = omega (arith, ap length e, length-take-le m bytes h);
      some = word_length_some inside w;
      within = omega (arith, ap length split, length-append inside after);
      word = subst IsWord (sym here) w;
    }

pub ref_longest : (name : List ℕ) (n : ℕ) → IsLongest IsWord name n → 0 < n
    → IsLongest IsRef (codes "sev." ++ name) (n + 4)
ref_longest name n word some = record {
  within = omega (arith, word.within);
  spelled = λ _. rw whole (ref (take n name) refl (word.spelled some));
  longest = λ m h t. let at = ref_at name m h t in
      let most : at.size ≤ n = word.longest at.size at.within at.word in omega (arith, at.count);
}
  where
    whole : take (n + 4) (codes "sev." ++ name) ≡ codes "sev." ++ take n name
    whole =
        let size : n + 4 ≡ 4 + n = omega arith in
        ap (λ k. take k (codes "sev." ++ name)) size ∙ take-append-add (codes "sev.") name n

pub ref_unnamed : (name : List ℕ) (n : ℕ) → IsLongest IsWord name n → n ≤ 0 → IsLongest IsRef (codes "sev." ++ name) 0
ref_unnamed name n word none = longest_none IsRef (codes "sev." ++ name) (λ m h t.
    let at = ref_at name m h t in
    let most : at.size ≤ n = word.longest at.size at.within at.word in
    let some : 0 < at.size = at.some in
    absurd (omega arith))

pub ref_none : (bytes : List ℕ) → ((name : List ℕ) → bytes ≢ codes "sev." ++ name) → IsLongest IsRef bytes 0
ref_none bytes other = longest_none IsRef bytes no_ref
  where
    no_ref : (m : ℕ) → m ≤ length bytes → IsRef (take m bytes) → ⊥
    no_ref m h (ref inside e w) =
        grind (arith, take-append-drop m bytes, append_assoc (codes "sev.") inside (drop m bytes), inside)
