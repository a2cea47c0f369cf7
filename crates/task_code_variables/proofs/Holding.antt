-- Registers hold the variables of the loops around, and of one more inside.
use Rattle.std.proofs.Common.{◌≡◌, ℕ, suc, ◌<◌, ◌≤◌, ◌⊎◌, List, [], ◌∷◌, length, Bool, true, false, refl, ap, ◌∙◌, arith, inl, inr}
use Rattle.std.specs.Prelude.{◌==◌, ◌&&◌, if◌then◌else◌}
use Rattle.std.proofs.lemmas.Bool.Decides.{nat_tests}
use Rattle.loop_ir.specs.declared.expressions.Counter.{Counter}
use Rattle.loop_ir.specs.declared.statements.Whole.{Whole}
use Rattle.task_code_registers.specs.declared.scopes.Held.{Held}
use Rattle.task_code_registers.specs.Holding.{Extends, mentions}
use Rattle.task_code_registers.specs.Scopes.{are_registers, has_variable}
use Rattle.task_code_loops.specs.Beginning.{variable}
use Rattle.task_code_loops.proofs.Knowledge.{variable-more, variable-there}
use Rattle.task_code_variables.specs.Renaming.{HoldsAround, numbered}
use Rattle.task_code_variables.specs.Splits.{EntersSplit}

last-or-before : (depth n : ℕ) → depth < suc n → (depth ≡ n) ⊎ (depth < n)
last-or-before depth n less = by-test (depth == n) refl
  where
    by-test : (t : Bool) → (depth == n) ≡ t → (depth ≡ n) ⊎ (depth < n)
    by-test true is = let e : depth ≡ n = grind (arith, nat_tests, is) in inl e
    by-test false is = let e : depth < n = grind (arith, nat_tests, is, less) in inr e

pub holds-more : (around : List Counter) (counter : Counter) (scope inner : List Held) → HoldsAround around scope → Extends scope inner
    → has_variable inner (numbered (length around)) ≡ true
    → ((depth : ℕ) → suc (length around) ≤ depth → mentions (numbered depth) inner ≡ mentions (numbered depth) scope)
    → are_registers inner ≡ true → HoldsAround (counter ∷ around) inner
holds-more around counter scope inner holds extends has others registers = record {
  have = λ depth less. from depth (last-or-before depth (length around) less);
  lack = λ depth more. others depth more ∙ holds.lack depth (omega (arith, more));
  registers = registers;
}
  where
    from : (depth : ℕ) → (depth ≡ length around) ⊎ (depth < length around) → has_variable inner (numbered depth) ≡ true
    from depth (inl e) = ap (λ n. has_variable inner (numbered n)) e ∙ has
    from depth (inr less) =
        ap (λ i. has_variable i (numbered depth)) extends.is ∙ variable-more (numbered depth) extends.added scope (holds.have depth less)

apart : (a b : ℕ) → a < b → (a == b) ≡ false
apart a b less = grind (arith, nat_tests, less)

pub holds-split : (around : List Counter) (counter : Counter) (whole : Whole) (scope inner : List Held) (c0 c1 : List ℕ) → HoldsAround around scope
    → EntersSplit c0 c1 scope inner around whole → HoldsAround (counter ∷ around) inner
holds-split around counter whole scope inner c0 c1 holds enters =
    holds-more around counter scope inner holds (record { added = own ∷ []; is = enters.is })
    (ap (λ i. has_variable i (numbered (length around))) enters.is
    ∙ variable-there (numbered (length around)) own scope enters.left.0 refl)
    (λ depth more. ap (mentions (numbered depth)) enters.is ∙ unmentioned depth more)
    (ap are_registers enters.is ∙ ap (λ t. t && are_registers scope) enters.left.0 ∙ holds.registers)
  where
    own : Held
    own = record { register = enters.register; form = variable (numbered (length around)) }

    unmentioned : (depth : ℕ) → suc (length around) ≤ depth → mentions (numbered depth) (own ∷ scope) ≡ mentions (numbered depth) scope
    unmentioned depth more =
        ap (λ t. if (if t then true else false) then true else mentions (numbered depth) scope) (apart (length around) depth (omega (arith, more)))
