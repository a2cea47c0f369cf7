-- Lanes of one store: they store to one Func, and those that guards let pass are the first ones.
use Rattle.std.proofs.Common.{◌≡◌, ℕ, zero, suc, ◌+◌, ◌<◌, ◌≤◌, Bool, true, false, refl, ap, ◌∙◌, sym, subst, arith, cond}
use Rattle.std.specs.Prelude.{◌&&◌, if◌then◌else◌, nat_le, nat_lt, Option, Some, None}
use Rattle.std.proofs.lemmas.Bool.{and_parts}
use Rattle.std.proofs.lemmas.Bool.Decides.{nat_tests}
use Rattle.halide_pipeline.specs.Pixel.{Reads}
use Rattle.loop_ir.specs.declared.expressions.Counter.{Counter}
use Rattle.loop_ir.specs.declared.statements.Store.{Store}
use Rattle.loop_ir.specs.declared.statements.Whole.{Whole}
use Rattle.loop_ir.specs.declared.statements.Stmt.{Stmt, ind-Stmt, roll-Stmt, map-Stmt}
use Rattle.loop_ir.specs.declared.statements.Stmt.TheOpen.{Stmt-F}
use Rattle.loop_ir.specs.declared.statements.Stmt.TheOpen as layer
use Rattle.loop_ir.specs.declared.statements.Stmt.TheVariants.{rolls-Store, rolls-Sequence, rolls-For, rolls-Bind}
use Rattle.loop_ir.specs.declared.statements.Stmt.TheVariants as s
use Rattle.loop_ir.specs.AtOnce.{Effect, effect}
use Rattle.loop_ir.specs.Counters.{Values, with}
use Rattle.loop_ir.specs.Expressions.{value}
use Rattle.loop_ir.specs.LoopLanes.{LoopLanes, loop_lanes}
use Rattle.loop_ir.specs.Running.{whole_value}
use Rattle.loop_ir.proofs.AtOnce.{effect_store, effect_sequence, effect_for, effect_bind}
use Rattle.loop_ir.proofs.LoopLanes.{lanes_bind}

none-some : {own : Effect} → None ≡ Some own → ⊥
none-some e = absurd (cc e)

abbrev of_some : Effect → Option Effect → Effect
of_some other None = other
of_some other (Some own) = own

up-to : (a b c : ℕ) → nat_le a b ≡ true → nat_lt b c ≡ true → nat_lt a c ≡ true
up-to a b c t u = let l : a ≤ b = grind (arith, nat_tests) in let m : b < c = grind (arith, nat_tests) in let n : a < c = omega (arith, l, m) in
    grind (arith, nat_tests, n)

-- what is stored, if anything is
pub record Stored (own_effect : Option Effect) : Type 0 where
  pub stored : Effect
  pub is : own_effect ≡ Some stored

module _ (reads : Reads) where
  -- ---- one Func

  -- all that is stored is of this Func
  pub record OfFunc (statement : Stmt) : Type 0 where
    pub func : ℕ
    pub is : (values : Values) (own_effect : Effect) → effect reads statement values ≡ Some own_effect
        → own_effect.func ≡ func

  none-stored : (statement : Stmt) → ((values : Values) → effect reads statement values ≡ None) → OfFunc statement
  none-stored statement none = record {
    func = 0;
    is = λ values own_effect e. absurd (none-some (sym (none values) ∙ e));
  }

  by-pass : (t : Bool) (inner : Option Effect) (own_effect : Effect) (func : ℕ) → ((e : Effect) → inner ≡ Some e → e.func ≡ func) → cond t inner None ≡ Some own_effect
      → own_effect.func ≡ func
  by-pass true inner own_effect func is e = is own_effect e
  by-pass false inner own_effect func is e = absurd (none-some e)

  func-by-layer : (X : Type 0) (part : X → Stmt) → ((p : X) → OfFunc (part p)) → (l : Stmt-F X) → OfFunc (roll-Stmt (map-Stmt X Stmt part l))
  func-by-layer X part of (layer.Store store) = subst OfFunc (sym (rolls-Store store))
      (record { func = store.func; is = λ values own_effect e. sym (ap (λ o. (of_some own_effect o).func) (sym (effect_store reads store values) ∙ e)) })
  func-by-layer X part of (layer.Sequence a b) = subst OfFunc (sym (rolls-Sequence (part a) (part b))) (none-stored (s.Sequence (part a) (part b))
      (effect_sequence reads (part a) (part b)))
  func-by-layer X part of (layer.For counter count kind a) = subst OfFunc (sym (rolls-For counter count kind (part a)))
      (none-stored (s.For counter count kind (part a)) (effect_for reads counter count kind (part a)))
  func-by-layer X part of (layer.Bind counter whole extent a) = subst OfFunc (sym (rolls-Bind counter whole extent (part a)))
      (record {
        func = (of a).func;
        is = λ values own_effect e.
            by-pass (nat_lt (whole_value whole values) extent) (effect reads (part a) (with counter (whole_value whole values) values)) own_effect (of a).func
            (λ i k. (of a).is (with counter (whole_value whole values) values) i k)
            (sym (effect_bind reads counter whole extent (part a) values) ∙ e);
      })

  pub of-func : (statement : Stmt) → OfFunc statement
  of-func = ind-Stmt OfFunc (λ l t is. subst (λ (k : Stmt-F Stmt). OfFunc (roll-Stmt k)) is (func-by-layer _ (λ e. e.0) (λ e. e.1) t))

  -- ---- the first ones

  -- What stores in the next lane stores in this one.
  abbrev PassesOn : Stmt → Type 0
  PassesOn statement = (now next : Values) → (loop_lanes reads statement).steps_up now next ≡ true → Stored (effect reads statement next)
      → Stored (effect reads statement now)

  never : (statement : Stmt) → ((values : Values) → effect reads statement values ≡ None) → PassesOn statement
  never statement none now next up a = absurd (none-some (sym (none next) ∙ a.is))

  store-passes : (store : Store) → PassesOn (s.Store store)
  store-passes store now next up a = record {
    stored = record {
      func = store.func;
      x = value reads now store.x;
      y = value reads now store.y;
      pixel =
          value reads now store.value;
    };
    is = effect_store reads store now;
  }

  bind-passes : (counter : Counter) (whole : Whole) (extent : ℕ) (body : Stmt) → PassesOn body → PassesOn (s.Bind counter whole extent body)
  bind-passes counter whole extent body on now next up a =
      subst Stored (sym (effect_bind reads counter whole extent body now)) (by-next (nat_lt (whole_value whole next) extent) refl
      (subst Stored (effect_bind reads counter whole extent body next) a))
    where
      now_in : Values
      now_in = with counter (whole_value whole now) now

      next_in : Values
      next_in = with counter (whole_value whole next) next

      both : Bool
      both = nat_le (whole_value whole now) (whole_value whole next) && (loop_lanes reads body).steps_up now_in next_in

      up-is : (if nat_lt (whole_value whole next) extent then both else true) ≡ true
      up-is = sym (ap (λ (r : LoopLanes). r.steps_up now next) (lanes_bind reads counter whole extent body)) ∙ up

      by-next : (t : Bool) → nat_lt (whole_value whole next) extent ≡ t → Stored (cond t (effect reads body next_in) None)
          → Stored (cond (nat_lt (whole_value whole now) extent) (effect reads body now_in) None)
      by-next false e b = absurd (none-some b.is)
      by-next true e b =
          let k = and_parts (nat_le (whole_value whole now) (whole_value whole next)) ((loop_lanes reads body).steps_up now_in next_in)
          (sym (ap (λ t. if t then both else true) e) ∙ up-is) in
          subst (λ t. Stored (cond t (effect reads body now_in) None)) (sym (up-to (whole_value whole now) (whole_value whole next) extent k.0 e))
          (on now_in next_in k.1 b)

  passes-by-layer : (X : Type 0) (part : X → Stmt) → ((p : X) → PassesOn (part p)) → (l : Stmt-F X) → PassesOn (roll-Stmt (map-Stmt X Stmt part l))
  passes-by-layer X part on (layer.Store store) = subst PassesOn (sym (rolls-Store store)) (store-passes store)
  passes-by-layer X part on (layer.Sequence a b) = subst PassesOn (sym (rolls-Sequence (part a) (part b))) (never (s.Sequence (part a) (part b))
      (effect_sequence reads (part a) (part b)))
  passes-by-layer X part on (layer.For counter count kind a) = subst PassesOn (sym (rolls-For counter count kind (part a)))
      (never (s.For counter count kind (part a)) (effect_for reads counter count kind (part a)))
  passes-by-layer X part on (layer.Bind counter whole extent a) = subst PassesOn (sym (rolls-Bind counter whole extent (part a))) (bind-passes counter whole
      extent (part a) (on a))

  pub passes-on : (statement : Stmt) → PassesOn statement
  passes-on = ind-Stmt PassesOn (λ l t is. subst (λ (k : Stmt-F Stmt). PassesOn (roll-Stmt k)) is (passes-by-layer _ (λ e. e.0) (λ e. e.1) t))

  -- so from any lane to those before it
  pub all-before : (body : Stmt) (at : ℕ → Values) (n : ℕ) → ((k : ℕ) → k + 1 < n → (loop_lanes reads body).steps_up (at k) (at (k + 1)) ≡ true)
      → (i j : ℕ) → j + i < n → Stored (effect reads body (at (j + i))) → Stored (effect reads body (at j))
  all-before body at n up zero j b a = let e : j + 0 ≡ j = omega arith in subst (λ k. Stored (effect reads body (at k))) e a
  all-before body at n up (suc i) j b a =
      let e : j + suc i ≡ (j + i) + 1 = omega arith in
      all-before body at n up i j (omega (arith, b)) (passes-on body (at (j + i)) (at ((j + i) + 1)) (up (j + i) (omega (arith, b)))
      (subst (λ k. Stored (effect reads body (at k))) e a))
