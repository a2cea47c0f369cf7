-- A point at which a loop's lanes store in order is one at which they store at once.
use Rattle.std.proofs.Common.{◌≡◌, ℕ, zero, suc, Bool, true, false, ap, ◌∙◌, sym, subst, arith, inl, inr, cond}
use Rattle.std.specs.Prelude.{◌==◌, if◌then◌else◌, nat_lt, Option, Some, None}
use Rattle.std.proofs.lemmas.Bool.{and_parts, or_cases, true≢false}
use Rattle.std.proofs.lemmas.Bool.Decides.{nat_tests}
use Rattle.halide_pipeline.specs.Pixel.{Planes, Reads, reads_of}
use Rattle.loop_ir.specs.declared.expressions.Counter.{Counter}
use Rattle.loop_ir.specs.declared.statements.Store.{Store}
use Rattle.loop_ir.specs.declared.statements.Whole.{Whole}
use Rattle.loop_ir.specs.declared.statements.Stmt.{Stmt, ind-Stmt, roll-Stmt, map-Stmt}
use Rattle.loop_ir.specs.declared.statements.Stmt.TheOpen.{Stmt-F}
use Rattle.loop_ir.specs.declared.statements.Stmt.TheOpen as layer
use Rattle.loop_ir.specs.declared.statements.Stmt.TheVariants.{rolls-Store, rolls-Sequence, rolls-For, rolls-Bind}
use Rattle.loop_ir.specs.declared.statements.Stmt.TheVariants as s
use Rattle.loop_ir.specs.AtOnce.{Effect, effect}
use Rattle.loop_ir.specs.Buffers.{Points}
use Rattle.loop_ir.specs.Counters.{Values, with}
use Rattle.loop_ir.specs.Expressions.{value}
use Rattle.loop_ir.specs.LoopLanes.{LoopLanes, loop_lanes, are_apart}
use Rattle.loop_ir.specs.Running.{whole_value}
use Rattle.loop_ir.proofs.AtOnce.{effect_store, effect_bind, in_order, same_lane, fewer_apart}
use Rattle.loop_ir.proofs.LoopLanes.{lanes_sequence, lanes_of_loop, lanes_bind}
use Rattle.task_code_scalar.proofs.Tracing.{hit, made, hit_before, hit-store, hit-bind, hit-first, hit-later}
use Rattle.task_code_lanes.proofs.Effects.{HitBy}

same : (m n : ℕ) → (m == n) ≡ true → m ≡ n
same m n u = grind (arith, nat_tests)

-- what is stored, at the point
pub record StoredAt (own_effect : Option Effect) (func x y : ℕ) : Type 0 where
  pub stored : Effect
  pub is : own_effect ≡ Some stored
  pub func_is : stored.func ≡ func
  pub x_is : stored.x ≡ x
  pub y_is : stored.y ≡ y

module _ (points : Points) (inputs : Planes) (func x y : ℕ) (reads : Reads) where
  abbrev Stores : Stmt → Type 0
  Stores statement = (loop_lanes reads statement).is_one_store ≡ true → (values : Values) (funcs : Planes) → hit points inputs func x y statement values funcs
      ≡ true
      → StoredAt (effect (reads_of inputs funcs) statement values) func x y

  at-store : (store : Store) → Stores (s.Store store)
  at-store store is values funcs h =
      let r = reads_of inputs funcs in
      let t = sym (hit-store points inputs func x y store values funcs) ∙ h in
      let k = and_parts (store.func == func) _ t in
      let j = and_parts (value r values store.x == x) (value r values store.y == y) k.1 in
      record {
        stored = record { func = store.func; x = value r values store.x; y = value r values store.y; pixel = value r values store.value };
        is = effect_store r store values;
        func_is = same store.func func k.0;
        x_is = same (value r values store.x) x j.0;
        y_is = same (value r values store.y) y j.1;
      }

  at-bind : (counter : Counter) (whole : Whole) (extent : ℕ) (body : Stmt) → Stores body → Stores (s.Bind counter whole extent body)
  at-bind counter whole extent body stores is values funcs h =
      subst (λ e. StoredAt e func x y) (sym (effect_bind (reads_of inputs funcs) counter whole extent body values))
      (by-test (nat_lt (whole_value whole values) extent) (sym (hit-bind points inputs func x y counter whole extent body values funcs) ∙ h))
    where
      by-test : (t : Bool) → (if t then hit points inputs func x y body (with counter (whole_value whole values) values) funcs else false) ≡ true
          → StoredAt (cond t (effect (reads_of inputs funcs) body (with counter (whole_value whole values) values)) None) func x y
      by-test true k = stores (sym (ap (λ (own_loop_lanes : LoopLanes). own_loop_lanes.is_one_store) (lanes_bind reads counter whole extent body))
          ∙ is) (with counter (whole_value whole values) values) funcs k
      by-test false k = absurd (true≢false (sym k))

  by-layer : (X : Type 0) (part : X → Stmt) → ((p : X) → Stores (part p)) → (l : Stmt-F X) → Stores (roll-Stmt (map-Stmt X Stmt part l))
  by-layer X part stores (layer.Store store) = subst Stores (sym (rolls-Store store)) (at-store store)
  by-layer X part stores (layer.Sequence a b) = subst Stores (sym (rolls-Sequence (part a) (part b)))
      (λ is. absurd (true≢false (sym is ∙ ap (λ (own_loop_lanes : LoopLanes). own_loop_lanes.is_one_store) (lanes_sequence reads (part a) (part b)))))
  by-layer X part stores (layer.For counter count kind a) = subst Stores (sym (rolls-For counter count kind (part a)))
      (λ is. absurd (true≢false (sym is ∙ ap (λ (own_loop_lanes : LoopLanes). own_loop_lanes.is_one_store) (lanes_of_loop reads counter count kind (part a)))))
  by-layer X part stores (layer.Bind counter whole extent a) = subst Stores (sym (rolls-Bind counter whole extent (part a))) (at-bind counter whole extent
      (part a) (stores a))

  all-store : (statement : Stmt) → Stores statement
  all-store = ind-Stmt Stores (λ l t is. subst (λ (k : Stmt-F Stmt). Stores (roll-Stmt k)) is (by-layer _ (λ e. e.0) (λ e. e.1) t))

-- ---- all lanes

module _ (points : Points) (inputs : Planes) (body : Stmt) (at : ℕ → Values) (funcs : Planes) (one : (loop_lanes (reads_of inputs funcs) body).is_one_store ≡ true)
  where
    abbrev before : Reads
    before = reads_of inputs funcs

    abbrev effects : ℕ → Option Effect
    effects k = effect before body (at k)

    one-more : (n func x y : ℕ) → HitBy effects n func x y → HitBy effects (suc n) func x y
    one-more n func x y hit = record {
      lane = hit.lane;
      below = (let b = hit.below in omega (arith, b));
      stored = hit.stored;
      is = hit.is;
      func_is =
          hit.func_is;
      x_is = hit.x_is;
      y_is = hit.y_is;
    }

    pub hits-at-once : (n : ℕ) → are_apart (loop_lanes before body) at n ≡ true → (func x y : ℕ) → hit_before points inputs func x y body at n funcs ≡ true
        → HitBy effects n func x y
    hits-at-once zero apart func x y h = absurd (true≢false (sym h ∙ hit-first points inputs func x y body at funcs))
    hits-at-once (suc n) apart func x y h =
        let fewer = fewer_apart points inputs body at funcs n apart in
        let so_far = made points inputs func x y body at n funcs in
        elim (or_cases (hit_before points inputs func x y body at n funcs) (hit points inputs func x y body (at n) so_far)
        (sym (hit-later points inputs func x y body at n funcs) ∙ h)) [
          | inl e ↦ one-more n func x y (hits-at-once n fewer func x y e)
          | inr e ↦
              let a = all-store points inputs func x y before body one (at n) so_far e in
              let b = ap (λ p. effect (reads_of inputs p) body (at n)) (in_order points inputs body at funcs n one fewer)
              ∙ same_lane points inputs body at funcs n apart in
              record { lane = n; below = omega arith; stored = a.stored; is = sym b ∙ a.is; func_is = a.func_is; x_is = a.x_is; y_is = a.y_is }
        ]
