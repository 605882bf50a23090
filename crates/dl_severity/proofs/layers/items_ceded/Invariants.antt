-- The items read so far, with what the clause keeps of their amounts.
use Rattle.dl_severity.proofs.Common.{ℕ, ◌≡◌, ◌<◌, map, take, get_or, Item, IsWhole, kept, with_amount}
use Rattle.dl_severity.proofs.layers.items_ceded.Given as goal

abbrev pub invariant-items : goal.invariant-items
invariant-items l = record {
  made : l.made.items ≡ map (with_amount (λ x. (kept l.fn.cede x).num)) (take l.item-index l.items);
  whole : (k : ℕ) (d : Item) → k < l.item-index → IsWhole (kept l.fn.cede (get_or l.items k d).amount);
}
