-- What spells a value is read as it, and what is read as a value spells it: for each way to write values.
use Rattle.dl_arguments.proofs.Common.{◌≡◌, ◌∙◌, inl, inr, cases_Bool, ℕ, suc, ◌≤◌, Bool, true, false, refl, ap, subst, List, [], ◌∷◌, length, Option, Some, None, arith, ◌==◌, IsTrue, if◌then◌else◌, option_map, option_and_then, list_any, bytes_eq, bytes_eq-Decides, behind_sign, cut_at, Text, zero}
use Rattle.dl_arguments.specs.Ways.{Way, one, pair, behind, word_or, made, that, list, AreJoined, last, more, joined_at}
unfoldable use Rattle.dl_arguments.specs.Ways.{joined}
use Rattle.dl_arguments.proofs.Signs.{chained, cut_back, cut_there, mapped, not_some, some_is, tested}

-- a way that reads exactly what it spells
pub record IsRead {A : Type 0} (w : Way A) : Type 0 where
  pub there : (text : Text) (x : A) → w.Spells text x → w.read text ≡ Some x
  pub back : (text : Text) (x : A) → w.read text ≡ Some x → w.Spells text x

-- the texts of such values have no such byte
abbrev pub IsWithout : {A : Type 0} → ℕ → Way A → Type 0
IsWithout {A} sign w = (text : Text) (x : A) → w.Spells text x → list_any (λ b. b == sign) text ≡ false

pub one_read : {A : Type 0} (passes : Text → Bool) (value : Text → A) → IsRead (one passes value)
one_read {A} passes value = record {
  there = λ text x h. rw h.0 (ap Some h.1);
  back = λ text x e. let t = tested (passes text) (Some (value text)) x e in (t.0, some_is (value text) x t.1);
}

pub pair_read : {A B : Type 0} (sign : ℕ) (a : Way A) (b : Way B) → IsRead a → IsRead b → IsWithout sign a
    → IsRead (pair sign a b)
pair_read {A} {B} sign a b ra rb free = record { there = there; back = back }
  where
    there : (text : Text) (both : A × B) → (pair sign a b).Spells text both → (pair sign a b).read text ≡ Some both
    there text both (front, rest, e, x, y) = grind (arith, cut_there sign front rest (free front both.0 x))

    back : (text : Text) (both : A × B) → (pair sign a b).read text ≡ Some both → (pair sign a b).Spells text both
    back text both e =
        let c = chained (λ cut. option_and_then (λ x. option_map (λ y. (x, y)) (b.read cut.1)) (a.read cut.0))
        (cut_at sign text) both e in
        let d = chained (λ x. option_map (λ y. (x, y)) (b.read c.0.1)) (a.read c.0.0) both c.2 in
        let m = mapped (λ y. (d.0, y)) (b.read c.0.1) both d.2 in (
          c.0.0,
          c.0.1,
          cut_back sign text c.0 c.1,
          ra.back c.0.0 both.0 (d.1 ∙ ap (λ p. Some p.0) m.2),
          rb.back c.0.1 both.1 (m.1 ∙ ap (λ p. Some p.1) m.2),
        )

pub behind_read : {A : Type 0} (sign : ℕ) (a : Way A) → (sign == sign) ≡ true → IsRead a → IsRead (behind sign a)
behind_read {A} sign a same r = record { there = there; back = back }
  where
    there : (text : Text) (x : A) → (behind sign a).Spells text x → (behind sign a).read text ≡ Some x
    there text x (rest, e, h) = rw e (rw same (r.there rest x h))

    found : (text rest : Text) → behind_sign sign text ≡ Some rest → text ≡ sign ∷ rest
    found [] rest e = not_some rest e
    found (c ∷ cs) rest e = grind (arith, tested (c == sign) (Some cs) rest e, some_is)

    back : (text : Text) (x : A) → (behind sign a).read text ≡ Some x → (behind sign a).Spells text x
    back text x e =
        let c = chained a.read (behind_sign sign text) x e in (c.0, found text c.0 c.1, r.back c.0 x c.2)

pub word_or_read : {A : Type 0} (word : Text) (v : A) (a : Way A) → bytes_eq word word ≡ true → IsRead a
    → ((x : A) → ¬ a.Spells word x) → IsRead (word_or word v a)
word_or_read {A} word v a same r other = record { there = there; back = back }
  where
    there : (text : Text) (x : A) → (word_or word v a).Spells text x → (word_or word v a).read text ≡ Some x
    there text x (inl (e, is)) = rw e (rw same (ap Some is))
    there text x (inr h) = grind (arith, bytes_eq-Decides text word)

    back : (text : Text) (x : A) → (word_or word v a).read text ≡ Some x → (word_or word v a).Spells text x
    back text x e = elim (cases_Bool (bytes_eq text word)) [
      | inl h ↦ inl ((bytes_eq-Decides text word).0 h, some_is v x (rw h at e))
      | inr h ↦ inr (r.back text x (rw h at e))
    ]

pub made_read : {A B : Type 0} (f : A → B) (a : Way A) → IsRead a → IsRead (made f a)
made_read {A} {B} f a r = record {
  there = λ text y h. rw (r.there text h.0 h.2) (ap Some h.1);
  back = λ text y e. let m = mapped f (a.read text) y e in (m.0, m.2, r.back text m.0 m.1);
}

pub that_read : {A : Type 0} (passes : A → Bool) (a : Way A) → IsRead a → IsRead (that passes a)
that_read {A} passes a r = record { there = there; back = back }
  where
    there : (text : Text) (x : A) → (that passes a).Spells text x → (that passes a).read text ≡ Some x
    there text x h = rw (r.there text x h.0, h.1) refl

    back : (text : Text) (x : A) → (that passes a).read text ≡ Some x → (that passes a).Spells text x
    back text x e =
        let c = chained (λ x. if passes x then Some x else None) (a.read text) x e in
        let t = tested (passes c.0) (Some c.0) x c.2 in
        let is : c.0 ≡ x = some_is c.0 x t.1 in
        (r.back text x (c.1 ∙ ap Some is), subst (λ y. IsTrue (passes y)) is t.0)

-- ---- values joined by a sign

module _ {A : Type 0} (sign : ℕ) (a : Way A) (r : IsRead a) (free : IsWithout sign a) where
  joined_there : (most : ℕ) (text : Text) (xs : List A) → AreJoined sign a.Spells text xs → length xs ≤ most
      → joined sign a.read most text ≡ Some xs
  unfolding joined
  joined_there zero text _ (last x h) few = absurd (omega (arith, few))
  joined_there zero text _ (more front rest x xs h later e) few = absurd (omega (arith, few))
  joined_there (suc most) text _ (last x h) few = rw (free text x h, r.there text x h) refl
  joined_there (suc most) text _ (more front rest x xs h later e) few =
      let fewer : length xs ≤ most = omega (arith, few) in
      rw e (rw (cut_there sign front rest (free front x h), r.there front x h, joined_there most rest xs later fewer) refl)

  at_back : (most : ℕ) → ((rest : Text) (xs : List A) → joined sign a.read most rest ≡ Some xs
      → (list most sign a).Spells rest xs)
      → (text : Text) (cut : Option (Text × Text)) (xs : List A) → cut_at sign text ≡ cut
      → joined_at a.read (λ rest. joined sign a.read most rest) text cut ≡ Some xs
      → (list (suc most) sign a).Spells text xs
  at_back most each text None xs is e =
      let m = mapped (λ x. x ∷ []) (a.read text) xs e in
      subst (λ xs. (list (suc most) sign a).Spells text xs) m.2 (last m.0 (r.back text m.0 m.1), omega arith)
  at_back most each text (Some cut) xs is e =
      let c = chained (λ x. option_map (λ xs. x ∷ xs) (joined sign a.read most cut.1)) (a.read cut.0) xs e in
      let m = mapped (λ xs. c.0 ∷ xs) (joined sign a.read most cut.1) xs c.2 in
      let later = each cut.1 m.0 m.1 in
      subst (λ xs. (list (suc most) sign a).Spells text xs) m.2
      (more cut.0 cut.1 c.0 m.0 (r.back cut.0 c.0 c.1) later.0 (cut_back sign text cut is), omega (arith, later.1))

  joined_back : (most : ℕ) (text : Text) (xs : List A) → joined sign a.read most text ≡ Some xs
      → (list most sign a).Spells text xs
  unfolding joined
  joined_back zero text xs e = not_some xs e
  joined_back (suc most) text xs e =
      at_back most (λ rest xs e. joined_back most rest xs e) text (cut_at sign text) xs refl e

  pub list_read : (most : ℕ) → IsRead (list most sign a)
  list_read most = record { there = λ text xs h. joined_there most text xs h.0 h.1; back = joined_back most }
