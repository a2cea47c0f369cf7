-- Which loops collect their pixels: all vectorized ones whose iterations may be done at once.
use Rattle.std.proofs.Common.{◌≡◌, ℕ, ◌*◌, ◌<◌, ◌≤◌, Bool, true, false, List, Option, Some, None, refl, ap, ◌∙◌, sym, subst, arith}
use Rattle.std.specs.Prelude.{◌==◌, ◌||◌, ◌&&◌, if◌then◌else◌}
use Rattle.std.proofs.lemmas.Bool.{and_parts, true≢false}
use Rattle.std.proofs.lemmas.Bool.Decides.{nat_tests}
use Rattle.halide_pipeline.specs.Pixel.{Planes, Reads, reads_of}
use Rattle.loop_ir.specs.declared.expressions.Counter.{Counter}
use Rattle.loop_ir.specs.declared.statements.LoopKind.{LoopKind}
use Rattle.loop_ir.specs.declared.statements.LoopKind.TheVariants as kinds
use Rattle.loop_ir.specs.declared.statements.Store.{Store}
use Rattle.loop_ir.specs.declared.statements.Whole.{Whole}
use Rattle.loop_ir.specs.declared.statements.Stmt.{Stmt, ind-Stmt, roll-Stmt, map-Stmt, fold-roll-Stmt, size-Stmt}
use Rattle.loop_ir.specs.declared.statements.Stmt.TheViews.{sized-Bind}
use Rattle.loop_ir.specs.declared.statements.Stmt.TheOpen.{Stmt-F}
use Rattle.loop_ir.specs.declared.statements.Stmt.TheOpen as layer
use Rattle.loop_ir.specs.declared.statements.Stmt.TheVariants.{rolls-Store, rolls-Sequence, rolls-For, rolls-Bind}
use Rattle.loop_ir.specs.declared.statements.Stmt.TheVariants as s
use Rattle.loop_ir.specs.Counters.{Values, with}
use Rattle.loop_ir.specs.LoopLanes.{LoopLanes, loop_lanes, are_apart, all_step_up, is_lane_count, may_be_at_once}
use Rattle.loop_ir.specs.Soundness.{every}
use Rattle.loop_ir.proofs.LoopLanes.{lanes_store, lanes_sequence, lanes_of_loop, lanes_bind}
use Rattle.loop_ir.proofs.Sizes.{whole_for}
use Rattle.task_code_scalar.specs.declared.layouts.Places.{Places}
use Rattle.task_code_scalar.specs.Layout.{AreWords}
use Rattle.task_code_scalar.specs.Doing.{Setting}
use Rattle.task_code_lanes.specs.declared.groups.LaneGroup.{LaneGroup}
use Rattle.task_code_lanes.specs.declared.groups.LaneGroup.TheVariants as groups
use Rattle.task_code_lanes.specs.Groups.{registers, group_of_lanes}
use Rattle.task_code_registers.specs.declared.scopes.Held.{Held}
use Rattle.task_code_statements.specs.AtOnce.{AtOnceIn}
use Rattle.task_code_variables.specs.Collecting.{is_one_store, one_store_at, group_collected}
use Rattle.task_code_variables.specs.Statements.{AppendsLoop, AppendsStatement}

-- ---- one store

pub one-store-store : (store : Store) → is_one_store (s.Store store) ≡ true
unfolding is_one_store
one-store-store store = ap is_one_store (sym (rolls-Store store)) ∙ fold-roll-Stmt Bool one_store_at (layer.Store store)

pub one-store-sequence : (first second : Stmt) → is_one_store (s.Sequence first second) ≡ false
unfolding is_one_store
one-store-sequence first second = ap is_one_store (sym (rolls-Sequence first second)) ∙ fold-roll-Stmt Bool one_store_at (layer.Sequence first second)

pub one-store-for : (counter : Counter) (count : ℕ) (kind : LoopKind) (body : Stmt) → is_one_store (s.For counter count kind body) ≡ false
unfolding is_one_store
one-store-for counter count kind body = ap is_one_store (sym (rolls-For counter count kind body))
    ∙ fold-roll-Stmt Bool one_store_at (layer.For counter count kind body)

pub one-store-bind : (counter : Counter) (whole : Whole) (extent : ℕ) (body : Stmt) → is_one_store (s.Bind counter whole extent body) ≡ is_one_store body
unfolding is_one_store
one-store-bind counter whole extent body = ap is_one_store (sym (rolls-Bind counter whole extent body))
    ∙ fold-roll-Stmt Bool one_store_at (layer.Bind counter whole extent body)

-- ---- which loops

-- whose body is one store, as is asked of one whose iterations may be done at once
module _ (reads : Reads) where
  abbrev IsSame : Stmt → Type 0
  IsSame statement = (loop_lanes reads statement).is_one_store ≡ is_one_store statement

  same-by-layer : (X : Type 0) (part : X → Stmt) → ((p : X) → IsSame (part p)) → (l : Stmt-F X) → IsSame (roll-Stmt (map-Stmt X Stmt part l))
  same-by-layer X part is (layer.Store store) = subst IsSame (sym (rolls-Store store)) (ap (λ (r : LoopLanes). r.is_one_store) (lanes_store reads store)
      ∙ sym (one-store-store store))
  same-by-layer X part is (layer.Sequence a b) =
      subst IsSame (sym (rolls-Sequence (part a) (part b))) (ap (λ (r : LoopLanes). r.is_one_store) (lanes_sequence reads (part a) (part b))
      ∙ sym (one-store-sequence (part a) (part b)))
  same-by-layer X part is (layer.For counter count kind a) =
      subst IsSame (sym (rolls-For counter count kind (part a))) (ap (λ (r : LoopLanes). r.is_one_store) (lanes_of_loop reads counter count kind (part a))
      ∙ sym (one-store-for counter count kind (part a)))
  same-by-layer X part is (layer.Bind counter whole extent a) =
      subst IsSame (sym (rolls-Bind counter whole extent (part a)))
      (ap (λ (r : LoopLanes). r.is_one_store) (lanes_bind reads counter whole extent (part a)) ∙ is a ∙ sym (one-store-bind counter whole extent (part a)))

  pub one-store-same : (statement : Stmt) → IsSame statement
  one-store-same = ind-Stmt IsSame (λ l t is. subst (λ (k : Stmt-F Stmt). IsSame (roll-Stmt k)) is (same-by-layer _ (λ e. e.0) (λ e. e.1) t))

equal : (n k : ℕ) → (n == k) ≡ true → n ≡ k
equal n k t = grind (arith, nat_tests)

none-some : {own : LaneGroup} → None ≡ Some own → ⊥
none-some e = absurd (cc e)

abbrev or-this : LaneGroup → Option LaneGroup → LaneGroup
or-this other None = other
or-this other (Some own) = own

same-group : (a b : LaneGroup) → Some a ≡ Some b → a ≡ b
same-group a b e = ap (or-this b) e

-- a group's lanes
lanes-are : (count : ℕ) (a group : LaneGroup) → count ≡ 4 * registers a → Some a ≡ Some group → count ≡ 4 * registers group
lanes-are count a group n e = subst (λ g. count ≡ 4 * registers g) (same-group a group e) n

pub group-count : (count : ℕ) (group : LaneGroup) → group_of_lanes count ≡ Some group → count ≡ 4 * registers group
group-count count group e = by-four (count == 4) refl e
  where
    by-sixteen : (t : Bool) → (count == 16) ≡ t → (if t then Some groups.Four else None) ≡ Some group → count ≡ 4 * registers group
    by-sixteen true is k = lanes-are count groups.Four group (equal count 16 is) k
    by-sixteen false is k = absurd (none-some k)

    by-eight : (t : Bool) → (count == 8) ≡ t → (if t then Some groups.Two else (if count == 16 then Some groups.Four else None)) ≡ Some group
        → count ≡ 4 * registers group
    by-eight true is k = lanes-are count groups.Two group (equal count 8 is) k
    by-eight false is k = by-sixteen (count == 16) refl k

    by-four : (t : Bool) → (count == 4) ≡ t
        → (if t then Some groups.One else (if count == 8 then Some groups.Two else (if count == 16 then Some groups.Four else None))) ≡ Some group
        → count ≡ 4 * registers group
    by-four true is k = lanes-are count groups.One group (equal count 4 is) k
    by-four false is k = by-eight (count == 8) refl k

-- as many iterations as a group has lanes
pub has-group : (count : ℕ) → is_lane_count count ≡ true → group_of_lanes count ≡ None → ⊥
has-group count is none = by-tests (count == 4) (count == 8) (count == 16) is none
  where
    by-tests : (a b c : Bool) → (a || (b || c)) ≡ true
        → (if a then Some groups.One else (if b then Some groups.Two else (if c then Some groups.Four else None))) ≡ None → ⊥
    by-tests true b c t e = none-some (sym e)
    by-tests false true c t e = none-some (sym e)
    by-tests false false true t e = none-some (sym e)
    by-tests false false false t e = absurd (true≢false (sym t))

pub record IsCollected (count : ℕ) (kind : LoopKind) (body : Stmt) (group : LaneGroup) : Type 0 where
  pub kind_is : kind ≡ kinds.Vectorized
  pub one : is_one_store body ≡ true
  pub count_is : count ≡ 4 * registers group

pub is-collected : (count : ℕ) (kind : LoopKind) (body : Stmt) (group : LaneGroup) → group_collected count kind body ≡ Some group
    → IsCollected count kind body group
is-collected count kinds.Serial body group e = absurd (none-some e)
is-collected count kinds.Unrolled body group e = absurd (none-some e)
is-collected count kinds.Vectorized body group e = by-test (is_one_store body) refl e
  where
    by-test : (t : Bool) → is_one_store body ≡ t → (if t then group_of_lanes count else None) ≡ Some group → IsCollected count kinds.Vectorized body group
    by-test true is k = record { kind_is = refl; one = is; count_is = group-count count group k }
    by-test false is k = absurd (none-some k)

-- one of them is done so, where its iterations may be done at once
pub none-left : (reads : Reads) (count : ℕ) (body : Stmt) → is_lane_count count ≡ true → (loop_lanes reads body).is_one_store ≡ true
    → group_collected count kinds.Vectorized body ≡ None → ⊥
none-left reads count body is one none =
    has-group count is (sym (ap (λ t. if t then group_of_lanes count else None) (sym (one-store-same reads body) ∙ one)) ∙ none)

-- a loop that may run collects them, so that nothing is owed of one that doesn't
none-may : (own : Setting) (counter : Counter) (count : ℕ) (body : Stmt) (values : Values) (funcs : Planes) → AreWords funcs
    → AtOnceIn own (s.For counter count kinds.Vectorized body) values → group_collected count kinds.Vectorized body ≡ None → ⊥
none-may own counter count body values funcs words once none =
    let reads = reads_of own.inputs funcs in
    let at : ℕ → Values = (λ k. with counter k values) in
    let r = loop_lanes reads body in
    let e = sym (ap (λ (own : LoopLanes). own.may_be_at_once values) (lanes_of_loop reads counter count kinds.Vectorized body)) ∙ once funcs words in
    let a = and_parts (is_lane_count count && (r.is_one_store && (are_apart r at count && all_step_up r at count)))
    (every count (λ iteration. may_be_at_once reads body (at iteration))) e in
    let b = and_parts (is_lane_count count) (r.is_one_store && (are_apart r at count && all_step_up r at count)) a.0 in
    let d = and_parts r.is_one_store (are_apart r at count && all_step_up r at count) b.1 in
    none-left reads count body b.0 d.0 none

pub in-iteration : (places : Places) (scope : List Held) (around : List Counter) (counter : Counter) (count : ℕ) (kind : LoopKind) (body : Stmt) (c0 c1 : List ℕ)
    → group_collected count kind body ≡ None → AppendsLoop c0 c1 places scope around counter count body
    → AppendsStatement c0 c1 places scope around (s.For counter count kind body)
in-iteration places scope around counter count kinds.Serial body c0 c1 none made = made kinds.Serial refl
in-iteration places scope around counter count kinds.Unrolled body c0 c1 none made = made kinds.Unrolled refl
in-iteration places scope around counter count kinds.Vectorized body c0 c1 none made =
    let x = made kinds.Serial refl in
    record {
      insns = x.insns;
      emits = x.emits;
      short =
          let n = x.short in
          let one = whole_for counter count kinds.Serial body in
          let other = whole_for counter count kinds.Vectorized body in
          omega (arith, n, one, other);
      turns = x.turns;
      does = λ own good at values numbers stand holders may f memory funcs holds knows.
          absurd (none-may own counter count body values funcs holds.are_words may.at_once none);
    }

pub collected : (places : Places) (scope : List Held) (around : List Counter) (counter : Counter) (count : ℕ) (kind : LoopKind) (body : Stmt) (group : LaneGroup)
    (c0 c1 : List ℕ) → group_collected count kind body ≡ Some group
    → AppendsStatement c0 c1 places scope around (s.For counter (4 * registers group) kinds.Vectorized body)
    → AppendsStatement c0 c1 places scope around (s.For counter count kind body)
collected places scope around counter count kind body group c0 c1 is x =
    let k = is-collected count kind body group is in
    subst (λ n. AppendsStatement c0 c1 places scope around (s.For counter n kind body)) (sym k.count_is)
    (subst (λ z. AppendsStatement c0 c1 places scope around (s.For counter (4 * registers group) z body)) (sym k.kind_is) x)

-- ---- statements that are one store

pub no-sequence : (statement first second : Stmt) → statement ≡ s.Sequence first second
    → is_one_store statement ≡ true → ⊥
no-sequence statement first second e is = absurd (true≢false (sym is ∙ ap is_one_store e ∙ one-store-sequence first
    second))

pub no-for : (statement body : Stmt) (counter : Counter) (count : ℕ) (kind : LoopKind) → statement ≡ s.For counter count kind body → is_one_store statement ≡ true → ⊥
no-for statement body counter count kind e is = absurd (true≢false (sym is ∙ ap is_one_store e ∙ one-store-for counter count kind body))

pub body-one : (statement body x : Stmt) (counter : Counter) (whole : Whole) (extent : ℕ) → statement ≡ s.Bind counter whole extent body → x ≡ body
    → is_one_store statement ≡ true → is_one_store x ≡ true
body-one statement body x counter whole extent e ex is = ap is_one_store ex ∙ sym (one-store-bind counter whole extent body) ∙ sym (ap is_one_store e) ∙ is

-- a body is a smaller tree
pub smaller : (statement body x : Stmt) (counter : Counter) (whole : Whole) (extent : ℕ) → statement ≡ s.Bind counter whole extent body → x ≡ body
    → size-Stmt x < size-Stmt statement
smaller statement body x counter whole extent e ex = subst (λ y. size-Stmt x < size-Stmt y) (sym e)
    (subst (λ y. size-Stmt y < size-Stmt (s.Bind counter whole extent body)) (sym ex) (let h = sized-Bind counter whole extent body in omega (arith, h)))

pub lanes-some : (group : LaneGroup) (n : ℕ) → n ≡ 4 * registers group → 1 ≤ n
lanes-some groups.One n e = omega (arith, e)
lanes-some groups.Two n e = omega (arith, e)
lanes-some groups.Four n e = omega (arith, e)

pub collected-one : (count : ℕ) (kind : LoopKind) (body : Stmt) (lane_group : Option LaneGroup) (group : LaneGroup) → lane_group ≡ group_collected count kind body
    → lane_group ≡ Some group → is_one_store body ≡ true
collected-one count kind body lane_group group e is = (is-collected count kind body group (sym e ∙ is)).one
