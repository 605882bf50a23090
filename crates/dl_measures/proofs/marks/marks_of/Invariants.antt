use Rattle.dl_measures.proofs.Common.{◌≡◌, ◌*◌, length, AreMarks, IsMark, end_at}
use Rattle.dl_measures.proofs.marks.marks_of.Given as goal

abbrev pub invariant-loop-block : goal.invariant-loop-block
invariant-loop-block l = record {
  mark : IsMark l.one (end_at l.ends) (l.block * 64) l.mark;
  count : length l.marks.items ≡ l.block;
  marks : AreMarks l.one l.ends l.marks.items;
}
