-- By what the evaluator's recursion ends.
use Rattle.std.proofs.Common.{◌≡◌, ℕ, zero, suc, ◌+◌, ◌*◌, ◌^◌, ◌<◌, ◌≤◌, List, [], ◌∷◌, length, Some, ap, ◌∙◌, arith}
use Rattle.std.proofs.Math.Nat.{mul-le-mul_right}
use Rattle.std.specs.Prelude.{slice_get}
use Rattle.halide_pipeline.specs.declared.expressions.Expr.{Expr}
use Rattle.halide_pipeline.specs.declared.expressions.Expr.TheVariants as exprs
use Rattle.halide_pipeline.specs.declared.expressions.Operation.{Operation}
use Rattle.halide_pipeline.specs.declared.expressions.Source.{Source}
use Rattle.halide_pipeline.proofs.Trees.{at_binary, at_divide, at_remainder, at_select, at_call1, at_call2}
use Rattle.halide_pipeline.specs.declared.definitions.Update.{Update}
use Rattle.halide_pipeline.specs.declared.definitions.Func.{Func}
use Rattle.halide_pipeline.specs.Expressions.{nodes, nodes_at}
use Rattle.picture.specs.declared.scenes.Scene.{Scene}
use Rattle.picture.specs.declared.scenes.FuncState.{FuncState}
use Rattle.picture.specs.declared.scenes.FuncState.TheVariants as states
use Rattle.picture.specs.inner.Evaluation.{all_nodes, all_updates, update_nodes, updates_nodes}

-- past all updates of a Func
abbrev pub last : Scene → ℕ
last scene = all_updates scene.funcs.now + 1

abbrev pub level : Scene → ℕ → ℕ → ℕ → ℕ
level scene func_index updates number = (func_index * (all_updates scene.funcs.now + 2) + updates) * 2 ^ 65 + number

unfoldable pub measure : Scene → ℕ → ℕ → ℕ → ℕ → ℕ
measure scene func_index updates number size = level scene func_index updates number * (all_nodes scene.funcs.now + 8) +
    size

abbrev pub state_measure : Scene → ℕ → FuncState → ℕ → ℕ
state_measure scene func_index states.Earlier size = measure scene func_index 0 0 size
state_measure scene func_index (states.After updates number) size = measure scene func_index (updates + 1) number size
state_measure scene func_index (states.Forward updates number slice) size = measure scene func_index (updates + 1)
    number size

-- ---- what is less

below : (width low high small big : ℕ) → low < high → small < width → low * width + small < high * width + big
below width low high small big less fits =
    let more : suc low * width ≤ high * width = mul-le-mul_right width less in
    let one : suc low * width ≡ low * width + width = omega arith in
    omega (arith, more, one)

-- a smaller part, at the same place
pub less_size : (scene : Scene) (func_index updates number small big : ℕ) → small < big → measure scene func_index updates number small < measure scene func_index updates number big
unfolding measure
less_size scene func_index updates number small big less = omega arith

-- fewer points
pub less_number : (scene : Scene) (func_index updates low high small big : ℕ) → low < high → small < all_nodes scene.funcs.now + 8
    → measure scene func_index updates low small < measure scene func_index updates high big
unfolding measure
less_number scene func_index updates low high small big less fits =
    below (all_nodes scene.funcs.now + 8) (level scene func_index updates low) (level scene func_index updates high) small big (omega arith) fits

-- an earlier update
pub less_updates : (scene : Scene) (func_index low high number more small big : ℕ) → low < high → number < 2 ^ 65 → small < all_nodes scene.funcs.now + 8
    → measure scene func_index low number small < measure scene func_index high more big
unfolding measure
less_updates scene func_index low high number more small big less few fits =
    below (all_nodes scene.funcs.now + 8) (level scene func_index low number) (level scene func_index high more) small big (omega arith) fits

-- an earlier Func
pub less_own : (scene : Scene) (low high updates upto number more small big : ℕ) → low < high → updates < all_updates scene.funcs.now + 2 → number < 2 ^ 65
    → small < all_nodes scene.funcs.now + 8
    → measure scene low updates number small < measure scene high upto more big
unfolding measure
less_own scene low high updates upto number more small big less last few fits =
    let wide = all_updates scene.funcs.now + 2 in
    let before : low * wide + updates < high * wide + upto = below wide low high updates upto less last in
    below (all_nodes scene.funcs.now + 8) (level scene low updates number) (level scene high upto more) small big (omega (arith, before)) fits

-- ---- parts are no larger than the whole

pub pure_nodes : (funcs : List Func) (func_index : ℕ) (func : Func) → slice_get funcs func_index ≡ Some func → nodes func.pure ≤ all_nodes funcs
unfolding all_nodes
pure_nodes [] func_index func e = absurd cc
pure_nodes (first ∷ funcs) zero func e = let same : first ≡ func = cc in let n : nodes first.pure ≡ nodes func.pure = ap (λ (f : Func). nodes f.pure) same in
    omega (arith, n)
pure_nodes (first ∷ funcs) (suc func_index) func e = omega (arith, pure_nodes funcs func_index func e)

update_in : (updates : List Update) (at : ℕ) (update : Update) → slice_get updates at ≡ Some update → update_nodes update ≤ updates_nodes updates
update_in [] at update e = absurd cc
update_in (first ∷ updates) zero update e = let same : first ≡ update = cc in let n : update_nodes first ≡ update_nodes update = ap update_nodes same in
    omega (arith, n)
update_in (first ∷ updates) (suc at) update e = omega (arith, update_in updates at update e)

pub in_updates : (funcs : List Func) (func_index at : ℕ) (func : Func) (update : Update) → slice_get funcs func_index ≡ Some func → slice_get func.updates at ≡ Some update
    → update_nodes update ≤ all_nodes funcs
unfolding all_nodes
in_updates [] func_index at func update e u = absurd cc
in_updates (first ∷ funcs) zero at func update e u =
    let same : first ≡ func = cc in
    let n : updates_nodes first.updates ≡ updates_nodes func.updates = ap (λ (f : Func). updates_nodes f.updates) same in
    omega (arith, n, update_in func.updates at update u)
in_updates (first ∷ funcs) (suc func_index) at func update e u = omega
    (arith, in_updates funcs func_index at func update e u)

pub length-updates : (funcs : List Func) (func_index : ℕ) (func : Func) → slice_get funcs func_index ≡ Some func → length func.updates ≤ all_updates funcs
unfolding all_updates
length-updates [] func_index func e = absurd cc
length-updates (first ∷ funcs) zero func e = let same : first ≡ func = cc in let n : length first.updates ≡ length func.updates =
    ap (λ (f : Func). length f.updates) same in omega (arith, n)
length-updates (first ∷ funcs) (suc func_index) func e = omega (arith, length-updates funcs func_index func e)

pub less_in_state : (scene : Scene) (func_index : ℕ) (state : FuncState) (small big : ℕ) → small < big
    → state_measure scene func_index state small < state_measure scene func_index state big
less_in_state scene func_index states.Earlier small big less = less_size scene func_index 0 0 small big less
less_in_state scene func_index (states.After updates number) small big less = less_size scene func_index (updates + 1) number small big less
less_in_state scene func_index (states.Forward updates number slice) small big less = less_size scene func_index (updates + 1) number small big less

-- ---- the nodes of each kind of expression

module _ (e : Expr) where
  pub nodes-Binary : (operation : Operation) (a b : Expr) → e ≡ exprs.Binary operation a b → nodes e ≡ 1 + nodes a + nodes b
  unfolding nodes
  nodes-Binary operation a b is = ap nodes is ∙ at_binary ℕ nodes_at operation a b

  pub nodes-Divide : (a : Expr) (c : ℕ) → e ≡ exprs.Divide a c → nodes e ≡ 2 + nodes a
  unfolding nodes
  nodes-Divide a c is = ap nodes is ∙ at_divide ℕ nodes_at a c

  pub nodes-Remainder : (a : Expr) (c : ℕ) → e ≡ exprs.Remainder a c → nodes e ≡ 2 + nodes a
  unfolding nodes
  nodes-Remainder a c is = ap nodes is ∙ at_remainder ℕ nodes_at a c

  pub nodes-Select : (c a b : Expr) → e ≡ exprs.Select c a b → nodes e ≡ 1 + nodes c + nodes a + nodes b
  unfolding nodes
  nodes-Select c a b is = ap nodes is ∙ at_select ℕ nodes_at c a b

  pub nodes-Call1 : (s : Source) (a : Expr) → e ≡ exprs.Call1 s a → nodes e ≡ 1 + nodes a
  unfolding nodes
  nodes-Call1 s a is = ap nodes is ∙ at_call1 ℕ nodes_at s a

  pub nodes-Call2 : (s : Source) (a b : Expr) → e ≡ exprs.Call2 s a b → nodes e ≡ 1 + nodes a + nodes b
  unfolding nodes
  nodes-Call2 s a b is = ap nodes is ∙ at_call2 ℕ nodes_at s a b
