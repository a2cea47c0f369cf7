-- How many words loops around a body ask for.
use Rattle.std.proofs.Common.{◌≡◌, ℕ, ◌-◌, ◌≤◌, Bool, List, ◌∷◌, length, get_or, take, drop, sym, ap, subst, ◌∙◌}
use Rattle.schedule_lines.specs.declared.stages.Loop.{Loop}
use Rattle.schedule_lines.specs.declared.stages.Mark.TheVariants as marks
use Rattle.schedule_lines.specs.Directives.{is_marked}
use Rattle.schedule_loops.proofs.Lists.{first_of_rest}
use Rattle.schedule_loops.specs.Visits as loops
use Rattle.loop_ir.specs.declared.statements.LoopKind.{LoopKind}
use Rattle.loop_ir.specs.Sizes.{is_laid_out, loop_room}
use Rattle.lowering_nests.specs.Sizes.{nest_size}

module _ (counts : loops.Values) where
  pub once_size : (stage_loop : Loop) (kind : LoopKind) → is_laid_out kind ≡ is_marked marks.Unrolled stage_loop → (count : ℕ) → count ≡ counts stage_loop.id
      → (made body : ℕ) → made ≡ loop_room (is_laid_out kind) count body → made ≡ loop_room (is_marked marks.Unrolled stage_loop) (counts stage_loop.id) body
  once_size stage_loop kind kind_is count count_is made body is =
      is ∙ ap (λ (b : Bool). loop_room b count body) kind_is ∙ ap (λ (n : ℕ). loop_room (is_marked marks.Unrolled stage_loop) n body) count_is

  pub nested_size : (all : List Loop) (stage_loop : Loop) (made inner body : ℕ) → 1 ≤ length all
      → stage_loop ≡ get_or all 0 stage_loop
      → inner ≡ loop_room (is_marked marks.Unrolled stage_loop) (counts stage_loop.id) body
      → made ≡ nest_size counts (take (length all - 1) (drop 1 all)) inner → made ≡ nest_size counts all body
  nested_size all stage_loop made inner body some is once others =
      let rest = take (length all - 1) (drop 1 all) in
      let front : stage_loop ∷ rest ≡ all = ap (λ (o : Loop). o ∷ rest) is ∙ sym (first_of_rest all stage_loop some) in
      others ∙ ap (λ (n : ℕ). nest_size counts rest n) once ∙ ap (λ (ls : List Loop). nest_size counts ls body) front
