use Rattle.dl_measures.proofs.Common.{◌≡◌, ◌*◌, arith, subst, IsMark, end_at}
use Rattle.dl_measures.proofs.MarkLaws.{no_ends}
use Rattle.dl_measures.proofs.marks.Running.mark.Goals as goal

pub returns-then-blocks-eq0 : goal.returns-then-blocks-eq0
returns-then-blocks-eq0 c =
    let none : 0 ≡ c.args.blocks * 64 = omega arith in
    subst (λ n. IsMark c.args.self.one (end_at c.args.self.ends.now) n (record { sum = 0; rest = 0 })) none (no_ends _ _)
