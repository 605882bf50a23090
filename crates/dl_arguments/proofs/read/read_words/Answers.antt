-- What `clap` refuses is a misfit of the command, and what it finds is what the parts say.
use Rattle.dl_arguments.proofs.Common.{◌≡◌, ◌∙◌, IsTrue, Err, Result, inl, inr, sym, ap, subst, map, List, [], ◌∷◌, fault_of, is_simple_and_free, Kinds, found_of, App, is_simple, matches_of, rows_of, command, Settings, UsageFault, Line, WordsFault, Explains, answer_in, Text, words_of, ◌⊎◌, string_bytes, IfErr-weaker, IfOk-weaker, HasKind, IsAmong, app_of, ErrorKind, IsClapRefusal}
use Rattle.clap.specs.declared.error.kind.ErrorKind.TheVariants as refusals
use Rattle.dl_arguments.proofs.Judged.{given, refused}
use Rattle.dl_arguments.proofs.Simulation.{Fails}
use Rattle.dl_arguments.proofs.Whole.{matched, simple_command_is, simple_is, unfit}
use Rattle.dl_arguments.proofs.read.read_words.Goals as goal

-- an error that is not for want of memory means that there is a fault
fails_of : (kinds : Kinds) (k : _) → IsAmong k kinds → Fails kinds
fails_of [] k h = absurd h
fails_of (x ∷ xs) k h = tt

-- a refusal explains the words: either memory ran out, or they do not fit the command
refusal_explains : (kind : ErrorKind) (fault : WordsFault) (answer : Result Settings UsageFault)
    → IsClapRefusal kind fault → (kind ≡ refusals.OutOfMemory) ⊎ (answer ≡ Err Line) → Explains answer fault
refusal_explains kind fault answer (inl memory) cause = subst (Explains answer) (sym memory.1) tt
refusal_explains kind fault answer (inr other) (inl memory) = absurd (other.0 memory)
refusal_explains kind fault answer (inr other) (inr line) = subst (Explains answer) (sym other.1) line

pub returns-in-Err-try_get_matches_from : goal.returns-in-Err-try_get_matches_from
returns-in-Err-try_get_matches_from c =
    let words : List Text = map string_bytes c.args.words.now in
    let app : app_of c.in-Ok.command ≡ command = c.in-Ok.ensures in
    let kinds : HasKind (fault_of command words) c.in-Err-try_get_matches_from.error =
    subst (λ (a : App). HasKind (fault_of a words) c.in-Err-try_get_matches_from.error) app
    (c.in-Err-try_get_matches_from.ensures.kinds (ap is_simple_and_free app ∙ simple_command_is)) in
    let cause : (c.kind.result ≡ refusals.OutOfMemory) ⊎ (words_of words ≡ Err Line) = elim kinds [
      | inl memory ↦ inl (c.kind.ensures ∙ memory)
      | inr among ↦ inr (refused words (unfit words (fails_of (fault_of command words) _ among)))
    ] in
    record {
      settings = tt;
      fault = refusal_explains c.kind.result c.refusal.result (words_of words) c.refusal.ensures cause;
    }

-- the answer to what was found is the answer to the words
found_answer : {P : Type 0} (words : List Text) (app : App) (found : _) → app ≡ command
    → (IsTrue (is_simple_and_free app) → fault_of app words ≡ [])
    → (IsTrue (is_simple app) → (rows_of found ≡ matches_of app words) × P) → words_of words ≡ answer_in found
found_answer words app found e none rows =
    let got = matched words (subst (λ (a : App). fault_of a words ≡ []) e
    (none (ap is_simple_and_free e ∙ simple_command_is))) in
    given words got.0 got.1 found ((rows (ap is_simple e ∙ simple_is)).0 ∙ ap (λ (a : App). matches_of a words) e)

pub returns-in-Ok-try_get_matches_from-clause-settings : goal.returns-in-Ok-try_get_matches_from-clause-settings
returns-in-Ok-try_get_matches_from-clause-settings c =
    let found = c.in-Ok-try_get_matches_from in
    let same = found_answer (map string_bytes c.args.words.now) (app_of c.in-Ok.command) (found_of found.matches)
    c.in-Ok.ensures found.ensures.kinds found.ensures.matches in
    IfOk-weaker c.judge.result _ _ (λ s h. same ∙ h) c.judge.ensures.settings

pub returns-in-Ok-try_get_matches_from-clause-fault : goal.returns-in-Ok-try_get_matches_from-clause-fault
returns-in-Ok-try_get_matches_from-clause-fault c =
    let found = c.in-Ok-try_get_matches_from in
    let same = found_answer (map string_bytes c.args.words.now) (app_of c.in-Ok.command) (found_of found.matches)
    c.in-Ok.ensures found.ensures.kinds found.ensures.matches in
    IfErr-weaker c.judge.result _ _ (λ e h. subst (λ a. Explains a e) (sym same) h) c.judge.ensures.fault
