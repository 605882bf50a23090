use Rattle.dl_transform.proofs.Common.{ℕ, ◌≡◌, ◌+◌, ◌-◌, ◌*◌, ◌^◌, ◌<◌, ◌≤◌, take, drop, length, slice_index, get_or, arith, refl, get_or-take, get_or-drop, get_or_past, IsTableFor, Table}
use Rattle.dl_transform.proofs.Residues.{same_trans, same_of}
use Rattle.dl_transform.proofs.Parts.{IsBelow, below, join_small, roots_small, values_step}
use Rattle.dl_transform.proofs.modular.padded_values.Goals as goal

-- both halves of all items lie below the first node
halves : (t : Table) (l n : ℕ) → IsTableFor t l → 0 < l → n ≡ 2 ^ l → IsBelow l 0 (length t.roots.items) n
halves t l n table some size =
    below l 0 (length t.roots.items) n (λ e. absurd (omega (arith, e, some))) (omega (arith, table.within)) size

pub to_values-requires : goal.to_values-requires
to_values-requires c =
    let b = halves c.args.table.now _ _ c.requires.table c.requires.some c.requires.size in
    record {
      table = c.requires.table.table;
      size = omega (arith, b.half);
      within = b.first;
      small = c.load.ensures.small;
    }

pub to_values-requires-2 : goal.to_values-requires-2
to_values-requires-2 c =
    let b = halves c.args.table.now _ _ c.requires.table c.requires.some c.requires.size in
    record {
      table = c.requires.table.table;
      size = omega (arith, b.rest);
      within = b.second;
      small = c.load-2.ensures.small;
    }

pub returns-clause-small : goal.returns-clause-small
returns-clause-small c =
    join_small _ c.to_values.new.x c.to_values-2.new.x c.to_values.ensures.small c.to_values-2.ensures.small

pub returns-clause-values : goal.returns-clause-values
returns-clause-values c k inside =
    let p = c.args.table.now.p in
    let roots = c.args.table.now.roots.items in
    let a = c.args.a.now in
    let m = 2 ^ (c.args.levels - 1) in
    let n = 2 ^ c.args.levels in
    let whole : (0 + 1) * n ≤ 2 * length roots = omega (arith, c.requires.table.within) in
    let b : IsBelow c.args.levels 0 (length roots) (length c.args.x.now) =
    halves c.args.table.now _ _ c.requires.table c.requires.some c.requires.size in
    let room : length a ≤ m = omega (arith, b.half, c.requires.room) in
    let start : (w i : ℕ) → i < m → get_or a i 0 ≡ get_or (take m a) i 0 + w * get_or (drop m a) i 0 = λ w i h.
    rw (get_or-take m a i 0 h, get_or-drop m a i 0, get_or_past a (m + i) 0 (omega (arith, room))) (omega arith) in
    let len : length c.to_values.new.x ≡ m = omega (arith, b.half, b.rest) in
    let e : 0 * n + k ≡ k = omega arith in
    rw e at (values_step p 0 m n roots a (take m a) (drop m a) c.load.new.x c.load-2.new.x c.to_values.new.x
    c.to_values-2.new.x (c.args.levels - 1) refl b.twice
    (λ k h. (c.requires.table.table.root k h).square)
    (roots_small p roots (λ k h. (c.requires.table.table.root k h).factor.below))
    (rw b.twice at whole)
    refl refl (λ i h. same_trans (c.load.ensures.same i) (same_of p (start (slice_index roots 0) i h)))
    (λ i h. same_trans (c.load-2.ensures.same i) (same_of p (start (p - slice_index roots 0) i h)))
    len c.to_values.ensures.values c.to_values-2.ensures.values k inside)
