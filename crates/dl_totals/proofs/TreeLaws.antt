-- The tree of sums of units: a new node is the sum of two roots. The outer sum of a part of a node is the
-- outer sum of the node plus the other part.
use Rattle.dl_totals.proofs.Common.{◌≡◌, ℕ, suc, ◌+◌, ◌-◌, ◌<◌, ◌≤◌, List, [], ◌∷◌, ◌++◌, length, get_or, map, take, Option, Some, None, IfSome, arith, refl, sym, ap, ap₂, subst, subst₂, ◌∙◌, remove, length-append, length-map, length-take, get_or-map, Loss, total, EncloseEach, GridEncloses, IsSumOfPart, IsConvolution, Iv, cases_lt, cases_eq, eq-eqb, ne_eqb, lt-ltb, nat_tests, and_comm, or_comm, IfSome_then, get_or_append_left, get_or_default, get_or-append_right, map-append, get_or-replicate, get_or-set_other, length-replicate, length-set, append_assoc, get_or-set_at, option_to_list, get_or-append_seam, sum_by-append, sum_by-cons, sum_by-remove, chosen, sum_at, IsSumPicked, IsJoint, AreNodes, last_place, IsForest, IsTree, IsSumOutside, ReachDown, AreOthers, Node}
use Rattle.std.proofs.Common.{Bool, true, false, not, cond, ◌||◌, ◌&&◌, nat_lt, nat_eq, inl, inr, replicate, set}
use Rattle.std.specs.List.{All, sum_by}
use mathlib.Core.Path.{fun_ext}
use Rattle.dl_totals.proofs.Apart.{all_removed, not_both, either}
use Rattle.dl_totals.proofs.Chosen.{both_chosen, none_chosen, every, all_but}
use Rattle.dl_totals.proofs.Added.{first_cells}
use Rattle.dl_totals.proofs.Singles.{one_unit}

-- ---- places

-- the grids of the nodes
abbrev pub grids_of : {B : ℕ} → List (Node B) → List (List (Iv B))
grids_of nodes = map (λ node. node.grid) nodes

module _ {B : ℕ} (grids : List (List (Iv B))) (nodes : List (Node B)) where
  pub unit_there : (at : ℕ) (g : List (Iv B)) → at < length grids → g ≡ get_or grids at g → g ≡ sum_at grids nodes at
  unit_there at g h is = is ∙ sym (get_or_default grids at [] g h) ∙ sym (get_or_append_left grids (grids_of nodes) [] at h)

  pub node_there : (at : ℕ) (node : Node B) → length grids ≤ at → at < length grids + length nodes
      → node ≡ get_or nodes (at - length grids) node → node.grid ≡ sum_at grids nodes at
  node_there at node from h is =
      ap (λ (n : Node B). n.grid) is
      ∙ sym (get_or-map (λ (n : Node B). n.grid) nodes (at - length grids) node [] (omega (arith, from, h)))
      ∙ sym (get_or-append_right grids (grids_of nodes) (length grids) at [] refl from)

  -- later nodes change no earlier sum
  pub sum_before : (more : List (Node B)) (at : ℕ) → at < length grids + length nodes
      → sum_at grids (nodes ++ more) at ≡ sum_at grids nodes at
  sum_before more at h =
      ap (λ (t : List (List (Iv B))). get_or (grids ++ t) at []) (map-append (λ (n : Node B). n.grid) nodes more)
      ∙ ap (λ (t : List (List (Iv B))). get_or t at []) (sym (append_assoc grids (grids_of nodes) (grids_of more)))
      ∙ get_or_append_left (grids ++ grids_of nodes) (grids_of more) [] at (omega (
        arith,
        h,
        length-append grids (grids_of nodes),
        length-map nodes (λ (n : Node B). n.grid),
      ))

  -- the place of a new node comes after those of all units and earlier nodes
  pub sum_new : (node : Node B) (at : ℕ) → at ≡ length grids + length nodes
      → sum_at grids (nodes ++ node ∷ []) at ≡ node.grid
  sum_new node at e =
      ap (λ (t : List (List (Iv B))). get_or (grids ++ t) at []) (map-append (λ (n : Node B). n.grid) nodes (node ∷ []))
      ∙ ap (λ (t : List (List (Iv B))). get_or t at []) (sym (append_assoc grids (grids_of nodes) (node.grid ∷ [])))
      ∙ ap (λ m. get_or ((grids ++ grids_of nodes) ++ node.grid ∷ []) m []) (omega (
        arith,
        e,
        length-append grids (grids_of nodes),
        length-map nodes (λ (n : Node B). n.grid),
      ))
      ∙ get_or-append_seam (grids ++ grids_of nodes) node.grid [] []

-- ---- one node more

-- how often a unit is in the sum at a place
abbrev pub counted : (ℕ → ℕ → Bool) → ℕ → ℕ → ℕ
counted tests i at = cond (tests at i) 1 0

-- the tests with that of a new node, which has the units of two parts
abbrev pub with_joint : (ℕ → ℕ → Bool) → ℕ → ℕ → ℕ → ℕ → ℕ → Bool
with_joint tests m x y at = cond (nat_eq at m) (λ i. tests x i || tests y i) (tests at)

module _ (tests : ℕ → ℕ → Bool) (m x y : ℕ) where
  pub test_before : (at : ℕ) → at < m → with_joint tests m x y at ≡ tests at
  test_before at h = ap (λ b. cond b (λ i. tests x i || tests y i) (tests at)) (ne_eqb at m (λ e. omega (arith, e, h)))

  pub test_new : with_joint tests m x y m ≡ (λ i. tests x i || tests y i)
  test_new = ap (λ b. cond b (λ i. tests x i || tests y i) (tests m)) (eq-eqb m m refl)

same_counts : (f g : ℕ → ℕ) (m : ℕ) (ps : List ℕ) → ((p : ℕ) → p < m → f p ≡ g p) → All (λ p. p < m) ps
    → sum_by f ps ≡ sum_by g ps
same_counts f g m [] h all = refl
same_counts f g m (p ∷ ps) h all =
    sum_by-cons f p ps ∙ ap₂ (λ s t. s + t) (h p (all 0 0 (omega arith)))
    (same_counts f g m ps h (λ i d inside. all (suc i) d (omega (arith, inside)))) ∙ sym (sum_by-cons g p ps)

-- two roots leave their list
module _ (roots : List ℕ) (a b x y : ℕ) (in_a : a < length roots) (in_b : b < length (remove roots a))
    (is_x : x ≡ get_or roots a x) (is_y : y ≡ get_or (remove roots a) b y) where
  left_out : (f : ℕ → ℕ) → sum_by f (remove (remove roots a) b) + (f x + f y) ≡ sum_by f roots
  left_out f = omega (
    arith,
    sum_by-remove f roots a x in_a,
    sum_by-remove f (remove roots a) b y in_b,
    ap f is_x,
    ap f is_y,
  )

  rest_inside : (P : ℕ → Type 0) → All P roots → All P (remove (remove roots a) b)
  rest_inside P all = all_removed P (remove roots a) b in_b (all_removed P roots a in_a all)

  pub root_x : (P : ℕ → Type 0) → All P roots → P x
  root_x P all = subst P (sym is_x) (all a x in_a)

  pub root_y : (P : ℕ → Type 0) → All P roots → P y
  root_y P all = subst P (sym is_y) (all_removed P roots a in_a all b y in_b)

  module _ {B : ℕ} (k : ℕ) (grids : List (List (Iv B))) (nodes : List (Node B)) (node : Node B) (is_first : node.first ≡ x)
      (is_second : node.second ≡ y) (cells : length node.grid ≡ k)
      (conv : IsConvolution k (sum_at grids nodes x) (sum_at grids nodes y) node.grid)
      (forest : IsForest k grids nodes roots) where
    abbrev pub at_new : ℕ
    at_new = length grids + length nodes

    abbrev pub now : ℕ → ℕ → Bool
    now = with_joint forest.tests at_new x y

    in_x : x < at_new
    in_x = root_x (λ at. at < length grids + length nodes) forest.inside

    in_y : y < at_new
    in_y = root_y (λ at. at < length grids + length nodes) forest.inside

    apart : (i : ℕ) → (forest.tests x i && forest.tests y i) ≡ false
    apart i = not_both (forest.tests x i) (forest.tests y i) (omega (
      arith,
      left_out (counted forest.tests i),
      forest.once i,
      at_most (nat_lt i (length grids)),
    ))
      where
        at_most : (b : Bool) → cond b 1 0 ≤ 1
        at_most true = omega arith
        at_most false = omega arith

    new_sum : IsSumPicked k grids (λ i. forest.tests x i || forest.tests y i) node.grid
    new_sum =
        let one = forest.are.sums x in_x in
        let other = forest.are.sums y in_y in
        let both = both_chosen k grids (sum_at grids nodes x) (sum_at grids nodes y) node.grid (forest.tests x)
        (forest.tests y) apart one.encloses other.encloses one.long other.long cells conv in
        record { long = omega (arith, cells); encloses = both.encloses }

    new_joint : IsJoint now at_new node
    new_joint = record {
      first = omega (arith, is_first, in_x);
      second = omega (arith, is_second, in_y);
      apart = λ i. ap₂ (λ s t. now s i && now t i) is_first is_second
          ∙ ap₂ (λ p q. p i && q i) (test_before forest.tests at_new x y x in_x)
          (test_before forest.tests at_new x y y in_y) ∙ apart i;
      both = λ i. ap (λ p. p i) (test_new forest.tests at_new x y)
          ∙ sym (ap₂ (λ s t. now s i || now t i) is_first is_second
          ∙ ap₂ (λ p q. p i || q i) (test_before forest.tests at_new x y x in_x)
          (test_before forest.tests at_new x y y in_y));
    }

    joint_before : (j : ℕ) (old : Node B) → j < length nodes → IsJoint forest.tests (length grids + j) old
        → IsJoint now (length grids + j) old
    joint_before j old h joint =
        let same : (at : ℕ) → at < at_new → now at ≡ forest.tests at = test_before forest.tests at_new x y in
        let first = same old.first (omega (arith, joint.first, h)) in
        let second = same old.second (omega (arith, joint.second, h)) in
        record {
          first = joint.first;
          second = joint.second;
          apart = λ i. ap₂ (λ p q. p i && q i) first second ∙ joint.apart i;
          both = λ i. ap (λ p. p i) (same (length grids + j) (omega (arith, h))) ∙ joint.both i
              ∙ sym (ap₂ (λ p q. p i || q i) first second);
        }

    abbrev pub more : List (Node B)
    more = nodes ++ node ∷ []

    longer : length more ≡ length nodes + 1
    longer = length-append nodes (node ∷ [])

    new_nodes : AreNodes k grids more now
    new_nodes = record {
      units = λ at h i. ap (λ p. p i) (test_before forest.tests at_new x y at (omega (arith, h))) ∙ forest.are.units at h i;
      sums = λ at h. elim (cases_lt at at_new) [
        | inl before ↦ subst₂ (λ p g. IsSumPicked k grids p g) (sym (test_before forest.tests at_new x y at before))
            (sym (sum_before grids nodes (node ∷ []) at before)) (forest.are.sums at before)
        | inr after ↦
            let e : at ≡ at_new = omega (arith, after, h, longer) in
            subst₂ (λ p g. IsSumPicked k grids p g) (sym (ap now e ∙ test_new forest.tests at_new x y))
            (sym (sum_new grids nodes node at e)) new_sum
      ];
      parts = λ j d h. elim (cases_lt j (length nodes)) [
        | inl before ↦ subst (IsJoint now (length grids + j)) (sym (get_or_append_left nodes (node ∷ []) d j before))
            (joint_before j (get_or nodes j d) before (forest.are.parts j d before))
        | inr after ↦
            let e : j ≡ length nodes = omega (arith, after, h, longer) in
            subst₂ (λ at (n : Node B). IsJoint now at n) (ap (λ t. length grids + t) (sym e))
            (sym (ap (λ t. get_or more t d) e ∙ get_or-append_seam nodes node [] d)) new_joint
      ];
    }

    abbrev pub rest : List ℕ
    rest = remove (remove roots a) b

    roots_longer : length (rest ++ at_new ∷ []) ≡ length rest + 1
    roots_longer = length-append rest (at_new ∷ [])

    once_still : (i : ℕ) → sum_by (counted now i) (rest ++ at_new ∷ []) ≡ sum_by (counted forest.tests i) roots
    once_still i = omega (
      arith,
      sum_by-append (counted now i) rest (at_new ∷ []),
      sum_by-cons (counted now i) at_new [],
      ap {B = ℕ} (λ p. cond (p i) 1 0) (test_new forest.tests at_new x y),
      either (forest.tests x i) (forest.tests y i) (apart i),
      same_counts (counted now i) (counted forest.tests i) at_new rest
          (λ at h. ap {B = ℕ} (λ p. cond (p i) 1 0) (test_before forest.tests at_new x y at h))
          (rest_inside (λ at. at < length grids + length nodes) forest.inside),
      left_out (counted forest.tests i),
    )

    pub joined : IsForest k grids more (rest ++ at_new ∷ [])
    joined = record {
      tests = now;
      are = new_nodes;
      inside = λ i d h. elim (cases_lt i (length rest)) [
        | inl before ↦ subst (λ at. at < length grids + length more) (sym (get_or_append_left rest (at_new ∷ []) d i before))
            (omega (
              arith,
              longer,
              rest_inside (λ at. at < length grids + length nodes) forest.inside i d before,
            ))
        | inr after ↦
            let e : i ≡ length rest = omega (arith, after, h, roots_longer) in
            subst (λ at. at < length grids + length more)
            (sym (ap (λ t. get_or (rest ++ at_new ∷ []) t d) e ∙ get_or-append_seam rest at_new [] d))
            (omega (arith, longer))
      ];
      once = λ i. once_still i ∙ forest.once i;
      last = λ d. ap (λ t. get_or (rest ++ at_new ∷ []) t d) (omega (arith, roots_longer))
          ∙ get_or-append_seam rest at_new [] d ∙ omega (arith, longer);
    }

-- ---- the units alone

module _ {B : ℕ} (k : ℕ) (grids : List (List (Iv B))) (wide : All (λ g. k ≤ length g) grids) where
  abbrev pub unit_test : ℕ → ℕ → Bool
  unit_test at i = nat_eq i at

  unit_sum : (at : ℕ) → at < length grids → IsSumPicked k grids (unit_test at) (sum_at grids [] at)
  unit_sum at h =
      let here : sum_at grids [] at ≡ get_or grids at [] = get_or_append_left grids [] [] at h in
      let turned : nat_eq at ≡ unit_test at = fun_ext (λ i. turn at i) in
      subst₂ (λ p g. IsSumPicked k grids p g) turned (sym here) (record {
        long = wide at [] h;
        encloses = one_unit grids at (get_or grids at []) h (get_or_default grids at [] (get_or grids at []) h);
      })
    where
      turn : (at i : ℕ) → nat_eq at i ≡ nat_eq i at
      turn at i = grind (arith, nat_tests)

  pub units_alone : AreNodes k grids [] unit_test
  units_alone = record {
    units = λ at h i. refl;
    sums = λ at h. unit_sum at (omega (arith, h));
    parts = λ j d h. absurd (omega (arith, h));
  }

  -- where the places of the units are the roots
  pub unit_forest : (nodes : List (Node B)) (roots : List ℕ) → nodes ≡ [] → length roots ≡ length grids → 1 ≤ length grids
      → ((i d : ℕ) → i < length grids → get_or roots i d ≡ i)
      → ((i : ℕ) → sum_by (λ at. cond (nat_eq i at) 1 0) roots ≡ cond (nat_lt i (length grids)) 1 0)
      → IsForest k grids nodes roots
  unit_forest nodes roots none many some each once = subst (λ t. IsForest k grids t roots) (sym none) (record {
    tests = unit_test;
    are = units_alone;
    inside = λ i d h. omega (arith, h, many, each i d (omega (arith, h, many)));
    once = once;
    last = λ d. each (length roots - 1) d (omega (arith, many, some)) ∙ omega (arith, many);
  })

-- the one root that is left has all units
pub one_root : {B : ℕ} (k : ℕ) (grids : List (List (Iv B))) (nodes : List (Node B)) (roots : List ℕ) → length roots ≡ 1
    → IsForest k grids nodes roots → IsTree k grids nodes
one_root k grids nodes [] e forest = absurd (omega (arith, e))
one_root k grids nodes (p ∷ q ∷ roots) e forest = absurd (omega (arith, e))
one_root k grids nodes (p ∷ []) e forest = record {
  tests = forest.tests;
  are = forest.are;
  all = λ i h. ap (λ at. forest.tests at i) (sym (forest.last 0))
      ∙ there (forest.tests p i) (omega (
        arith,
        forest.once i,
        sum_by-cons (counted forest.tests i) p [],
        ap {B = ℕ} (λ b. cond b 1 0) (lt-ltb i (length grids) h),
      ));
}
  where
    there : (b : Bool) → cond {A = ℕ} b 1 0 ≡ 1 → b ≡ true
    there true e = refl
    there false e = absurd (omega (arith, e))

-- the sum at the last place
pub all_in_last : {B : ℕ} (k at : ℕ) (grids : List (List (Iv B))) (nodes : List (Node B)) (g : List (Iv B))
    → at ≡ last_place grids nodes → 1 ≤ length grids → g ≡ take k (sum_at grids nodes at) → IsTree k grids nodes
    → IsSumOfPart k grids (λ us. us) (Some g)
all_in_last k at grids nodes g e some is tree =
    let inside : at < length grids + length nodes = omega (arith, e, some) in
    let sum = tree.are.sums at inside in
    record {
      cells = ap length is ∙ omega (arith, sum.long, length-take k (sum_at grids nodes at));
      encloses = λ us w each. subst₂ (λ (h : List (Iv _)) vs. GridEncloses h (total vs)) (sym is)
          (every us (tree.tests at) (λ i h. ap (λ t. tree.tests t i) e ∙ tree.all i (omega (arith, h, each.as_many))))
          (first_cells (sum_at grids nodes at) k (total (chosen us (tree.tests at))) sum.long (sum.encloses us w each));
    }

-- ---- down

-- the nodes without the last one are still nodes
pub less_nodes : {B : ℕ} (k : ℕ) (grids : List (List (Iv B))) (nodes left : List (Node B)) (node : Node B)
    (tests : ℕ → ℕ → Bool) → nodes ≡ left ++ node ∷ [] → AreNodes k grids nodes tests
    → AreNodes k grids left tests × IsJoint tests (length grids + length left) node
less_nodes k grids nodes left node tests e are =
    let old : AreNodes k grids (left ++ node ∷ []) tests = subst (λ t. AreNodes k grids t tests) e are in
    let longer : length (left ++ node ∷ []) ≡ length left + 1 = length-append left (node ∷ []) in (
      record {
        units = old.units;
        sums = λ at h. subst (IsSumPicked k grids (tests at)) (sum_before grids left (node ∷ []) at h)
            (old.sums at (omega (arith, h, longer)));
        parts = λ j d h. subst (IsJoint tests (length grids + j)) (get_or_append_left left (node ∷ []) d j h)
            (old.parts j d (omega (arith, h, longer)));
      },
      subst (IsJoint tests (length grids + length left)) (get_or-append_seam left node [] node)
          (old.parts (length left) node (omega (arith, longer))),
    )

-- the outer sum of a node plus one part is the outer sum of the other part
module _ {B : ℕ} (k : ℕ) (grids : List (List (Iv B))) (whole own other : ℕ → Bool)
    (apart : (i : ℕ) → (own i && other i) ≡ false) (both : (i : ℕ) → whole i ≡ (own i || other i))
    (outside of_other g : List (Iv B)) (sum : IsSumOutside k grids whole outside)
    (picked : IsSumPicked k grids other of_other) (cells : length g ≡ k) (conv : IsConvolution k outside of_other g) where
  pub outside_one : IsSumOutside k grids own g
  outside_one = subst (λ (p : ℕ → Bool). IsSumOfPart k grids (λ us. chosen us p) (Some g))
      (fun_ext (λ i. ap (λ b. not b || other i) (both i) ∙ left (own i) (other i) (apart i)))
      (both_chosen k grids outside of_other g (λ i. not (whole i)) other
      (λ i. ap (λ b. not b && other i) (both i) ∙ none (own i) (other i)) sum.encloses picked.encloses
      (omega (arith, sum.cells)) picked.long cells conv)
    where
      left : (b d : Bool) → (b && d) ≡ false → (not (b || d) || d) ≡ not b
      left true true e = absurd (cc)
      left true false e = refl
      left false true e = refl
      left false false e = refl

      none : (b d : Bool) → (not (b || d) && d) ≡ false
      none true d = refl
      none false true = refl
      none false false = refl

-- outside all units there is none
pub outside_last : {B : ℕ} (k m : ℕ) (grids : List (List (Iv B))) (nodes : List (Node B)) (none : List (Iv B))
    (outer : List (Option (List (Iv B)))) → 1 ≤ length grids → m ≡ last_place grids nodes → length none ≡ k
    → GridEncloses none (total []) → outer ≡ replicate m None ++ Some none ∷ [] → IsTree k grids nodes
    → ReachDown k grids nodes outer
outside_last {B} k m grids nodes none outer some e cells of_none made tree =
    let many : length (replicate {A = Option (List (Iv B))} m None) ≡ m = length-replicate m None in
    let longer : length outer ≡ m + 1 = ap (λ (t : List (Option (List (Iv B)))). length t) made
    ∙ length-append (replicate m None) (Some none ∷ []) ∙ ap (λ t. t + 1) many in
    record {
      tests = tree.tests;
      are = tree.are;
      as_many = omega (arith, longer, e, some);
      each = λ at h. subst (λ (t : List (Option (List (Iv B)))). IfSome (get_or t at None) (IsSumOutside k grids (tree.tests at)))
          (sym made) (elim (cases_lt at m) [
            | inl before ↦ subst (λ (t : Option (List (Iv B))). IfSome t (IsSumOutside k grids (tree.tests at)))
                (sym (get_or_append_left (replicate m None) (Some none ∷ []) None at (omega (arith, before, many))
                ∙ get_or-replicate m at None None before)) tt
            | inr after ↦
                let here : at ≡ m = omega (arith, after, h, longer) in
                subst (λ (t : Option (List (Iv B))). IfSome t (IsSumOutside k grids (tree.tests at)))
                (sym (ap (λ i. get_or (replicate m None ++ Some none ∷ []) i None) (here ∙ sym many)
                ∙ get_or-append_seam (replicate m None) (Some none) [] None))
                (record {
                  cells = cells;
                  encloses = λ us w each. subst (λ vs. GridEncloses none (total vs))
                      (sym (nothing_left us at here each)) of_none;
                })
          ]);
    }
  where
    nothing_left : (us : List Loss) (at : ℕ) → at ≡ m → EncloseEach grids us → chosen us (λ i. not (tree.tests at i)) ≡ []
    nothing_left us at here each = none_chosen us (λ i. not (tree.tests at i)) (λ i h.
        ap not (ap (λ t. tree.tests t i) (here ∙ e) ∙ tree.all i (omega (arith, h, each.as_many))))

-- one item fewer after `pop`
pub one_fewer : {X : Type 0} (n : ℕ) (old new : List X) → new ≡ take (n - 1) old → n ≡ length old → 1 ≤ length old
    → length new + 1 ≡ length old
one_fewer n old new e many some = omega (arith, ap length e, length-take (n - 1) old, many, some)

-- the places of two roots that left their list, as slices read it
pub two_places : (old one rest two : List ℕ) (a b x y n : ℕ) → one ≡ old → a < length one → x ≡ get_or old a x
    → rest ≡ remove old a → two ≡ rest → b < length two → y ≡ get_or rest b y → All (λ at. at < n) old
    → (x < n) × (y < n)
two_places old one rest two a b x y n same in_a is_x left again in_b is_y inside =
    let fewer : All (λ at. at < n) rest = subst (λ t. All (λ at. at < n) t) (sym left)
    (all_removed (λ at. at < n) old a (omega (arith, in_a, ap length same)) inside) in (
      subst (λ at. at < n) (sym is_x) (inside a x (omega (arith, in_a, ap length same))),
      subst (λ at. at < n) (sym is_y) (fewer b y (omega (arith, in_b, ap length again))),
    )

-- the outer sums without that of the last node, of the nodes without the last one
pub less : {B : ℕ} (k : ℕ) (grids : List (List (Iv B))) (nodes left : List (Node B)) (node : Node B)
    (outer rest : List (Option (List (Iv B)))) (top : Option (Option (List (Iv B)))) → nodes ≡ left ++ node ∷ []
    → outer ≡ rest ++ option_to_list top → length rest + 1 ≡ length outer → ReachDown k grids nodes outer
    → ReachDown k grids left rest
less {B} k grids nodes left node outer rest top cut split fewer down = record {
  tests = down.tests;
  are = (less_nodes k grids nodes left node down.tests cut down.are).0;
  as_many = omega (arith, fewer, down.as_many, ap length cut, length-append left (node ∷ []));
  each = λ at h. subst (λ (t : Option (List (Iv B))). IfSome t (IsSumOutside k grids (down.tests at)))
      (ap (λ (t : List (Option (List (Iv B)))). get_or t at None) split
      ∙ get_or_append_left rest (option_to_list top) None at h) (down.each at (omega (arith, h, fewer)));
}

-- the outer sums of the two parts, from the outer sum of their node
module _ {B : ℕ} (k : ℕ) (grids : List (List (Iv B))) (left : List (Node B)) (node : Node B)
    (rest : List (Option (List (Iv B)))) (sum : List (Iv B))
    (down : ReachDown k grids (left ++ node ∷ []) (rest ++ Some sum ∷ [])) where
  abbrev pub under : AreNodes k grids left down.tests × IsJoint down.tests (length grids + length left) node
  under = less_nodes k grids (left ++ node ∷ []) left node down.tests refl down.are

  pub last_one : length rest ≡ length grids + length left
  last_one = omega (arith, down.as_many, length-append left (node ∷ []), length-append rest (Some sum ∷ []))

  pub whole_outside : IsSumOutside k grids (down.tests (length grids + length left)) sum
  whole_outside = subst (λ at. IsSumOutside k grids (down.tests at) sum) last_one
      (subst (λ (t : Option (List (Iv B))). IfSome t (IsSumOutside k grids (down.tests (length rest))))
      (get_or-append_seam rest (Some sum) [] None)
      (down.each (length rest) (omega (arith, length-append rest (Some sum ∷ [])))))

  part_outside : (own other : ℕ) → other < length grids + length left
      → ((i : ℕ) → (down.tests own i && down.tests other i) ≡ false)
      → ((i : ℕ) → down.tests (length grids + length left) i ≡ (down.tests own i || down.tests other i))
      → (f : Option (List (Iv B))) → IfSome f (λ g. length g ≡ k)
      → IfSome f (IsConvolution k sum (sum_at grids left other)) → IfSome f (IsSumOutside k grids (down.tests own))
  part_outside own other inside apart both None cells conv = tt
  part_outside own other inside apart both (Some g) cells conv =
      outside_one k grids (down.tests (length grids + length left)) (down.tests own) (down.tests other) apart both
      sum (sum_at grids left other) g whole_outside (under.0.sums other inside) cells conv

  module _ (first second : Option (List (Iv B))) (first_cells : IfSome first (λ g. length g ≡ k))
      (first_conv : IfSome first (IsConvolution k sum (sum_at grids left node.second)))
      (second_cells : IfSome second (λ g. length g ≡ k))
      (second_conv : IfSome second (IsConvolution k sum (sum_at grids left node.first))) where
    of_first : IfSome first (IsSumOutside k grids (down.tests node.first))
    of_first = part_outside node.first node.second under.1.second under.1.apart under.1.both first first_cells first_conv

    of_second : IfSome second (IsSumOutside k grids (down.tests node.second))
    of_second = part_outside node.second node.first under.1.first
        (λ i. and_comm (down.tests node.second i) (down.tests node.first i) ∙ under.1.apart i)
        (λ i. under.1.both i ∙ or_comm (down.tests node.first i) (down.tests node.second i)) second second_cells
        second_conv

    pub one_down : ReachDown k grids left (set (set rest node.first first) node.second second)
    unfolding less
    one_down =
        let base = less k grids (left ++ node ∷ []) left node (rest ++ Some sum ∷ []) rest (Some (Some sum)) refl refl
        (omega (arith, length-append rest (Some sum ∷ []))) down in
        let once = set rest node.first first in
        let size : length once ≡ length rest = length-set rest node.first first in
        record {
          tests = down.tests;
          are = under.0;
          as_many = length-set once node.second second ∙ size ∙ last_one;
          each = λ at h. elim (cases_eq at node.second) [
            | inl e ↦ subst2_at at node.second second (sym (get_or-set_at once node.second at second None e
                (omega (arith, size, last_one, under.1.second)))) e of_second
            | inr n ↦ subst (λ (t : Option (List (Iv B))). IfSome t (IsSumOutside k grids (down.tests at)))
                (sym (get_or-set_other once node.second at second None n)) (elim (cases_eq at node.first) [
                  | inl e ↦ subst2_at at node.first first (sym (get_or-set_at rest node.first at first None e
                      (omega (arith, last_one, under.1.first)))) e of_first
                  | inr m ↦ subst (λ (t : Option (List (Iv B))). IfSome t (IsSumOutside k grids (down.tests at)))
                      (sym (get_or-set_other rest node.first at first None m))
                      (base.each at (omega (arith, h, size, length-set once node.second second)))
                ])
          ];
        }
      where
        subst2_at : (at place : ℕ) (f : Option (List (Iv B))) {t : Option (List (Iv B))} → f ≡ t → at ≡ place
            → IfSome f (IsSumOutside k grids (down.tests place)) → IfSome t (IsSumOutside k grids (down.tests at))
        subst2_at at place f e here of_f = subst₂ (λ (t : Option (List (Iv B))) p. IfSome t (IsSumOutside k grids (down.tests p)))
            e (sym here) of_f

-- a sum of some units, where it is there
pub where_there : {B : ℕ} (k : ℕ) (grids : List (List (Iv B))) (part : List Loss → List Loss) (sum : Option (List (Iv B)))
    → IsSumOfPart k grids part sum → IfSome sum (λ g. IsSumOfPart k grids part (Some g))
where_there k grids part None h = tt
where_there k grids part (Some g) h = h

-- at the units it is the sum of all others
pub others_left : {B : ℕ} (k : ℕ) (grids : List (List (Iv B))) (nodes : List (Node B))
    (outer : List (Option (List (Iv B)))) → ReachDown k grids nodes outer → AreOthers k grids outer
others_left k grids nodes outer down i h =
    IfSome_then (get_or outer i None) (down.each i (omega (arith, h, down.as_many))) (λ g sum. record {
      cells = sum.cells;
      encloses = λ us w e. subst (λ vs. GridEncloses g (total vs))
          (all_but us i (λ j. not (down.tests i j)) (λ j inside. ap not (down.are.units i h j))) (sum.encloses us w e);
    })

-- ---- one unit after another

-- the sum at place i is taken out, and another put in
module _ {B : ℕ} (i : ℕ) (old : List (Option (List (Iv B)))) (x y : Option (List (Iv B))) (inside : i < length old)
    (P : ℕ → Option (List (Iv B)) → Type 0) where
  pub more_done : ((p : ℕ) → p < i → P p (get_or old p None)) → P i y
      → (p : ℕ) → p < i + 1 → P p (get_or (set (set old i x) i y) p None)
  more_done before now p h = elim (cases_lt p i) [
    | inl below ↦ subst (P p) (sym (get_or-set_other (set old i x) i p y None (λ e. omega (arith, e, below))
        ∙ get_or-set_other old i p x None (λ e. omega (arith, e, below)))) (before p below)
    | inr after ↦
        let e : p ≡ i = omega (arith, after, h) in
        subst₂ (λ q (t : Option (List (Iv B))). P q t) (sym e)
        (sym (get_or-set_at (set old i x) i p y None e (omega (arith, inside, length-set old i x)))) now
  ]

  pub rest_left : (n : ℕ) → ((p : ℕ) → i ≤ p → p < n → P p (get_or old p None))
      → (p : ℕ) → i + 1 ≤ p → p < n → P p (get_or (set (set old i x) i y) p None)
  rest_left n later p after h = subst (P p) (sym (get_or-set_other (set old i x) i p y None (λ e. omega (arith, e, after))
      ∙ get_or-set_other old i p x None (λ e. omega (arith, e, after)))) (later p (omega (arith, after)) h)
