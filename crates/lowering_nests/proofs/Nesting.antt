-- Loops around loops.
use Rattle.std.proofs.Common.{◌≡◌, ℕ, ◌-◌, ◌≤◌, List, [], ◌∷◌, length, get_or, take, drop, sym, ap, subst, ◌∙◌}
use Rattle.schedule_lines.specs.declared.stages.Loop.{Loop}
use Rattle.schedule_lines.specs.declared.stages.Split.{Split}
use Rattle.schedule_loops.proofs.Lists.{first_of_rest}
use Rattle.schedule_loops.specs.Visits as loops
use Rattle.schedule_loops.specs.Reach.{wholes}
use Rattle.schedule_loops.specs.Sizes.{SizedLoops}
use Rattle.schedule_loops.specs.Visits.{upto, nest, split_body, over_loops}
use Rattle.schedule_loops.specs.declared.extents.Extents.{Extents}
use Rattle.loop_ir.specs.declared.statements.Stmt.{Stmt}
use Rattle.lowering_nests.specs.Nests.{Repeats}
use Rattle.lowering_nests.proofs.Few.{over_last}
use Rattle.lowering_nests.proofs.Repeating.{repeats_itself}

module _ (func : ℕ) (extents : Extents) where
  -- what a statement does with a body, whatever that repeats
  abbrev Wraps : Stmt → Stmt → ((loops.Values → List loops.Values) → loops.Values → List loops.Values) → Type 0
  Wraps new_statement body wrapped = (leaf : Stmt) (list : loops.Values → List loops.Values) → Repeats func body leaf list → Repeats func new_statement leaf (wrapped list)

  pub nested_repeats : (splits : List Split) (all : List Loop) (stage_loop : Loop) (new_statement inner body : Stmt) → 1 ≤ length all → stage_loop ≡ get_or all 0 stage_loop
      → Wraps inner body (λ list outer. upto (loops.counts extents splits stage_loop.id) (λ iteration. list (loops.with stage_loop.id iteration outer)))
      → Wraps new_statement inner (nest (loops.counts extents splits) (take (length all - 1) (drop 1 all)))
      → Wraps new_statement body (nest (loops.counts extents splits) all)
  nested_repeats splits all stage_loop new_statement inner body some is once others leaf list repeats =
      let front : stage_loop ∷ take (length all - 1) (drop 1 all) ≡ all =
      ap (λ (o : Loop). o ∷ take (length all - 1) (drop 1 all)) is ∙ sym (first_of_rest all stage_loop some) in
      subst (λ (ls : List Loop). Repeats func new_statement leaf (nest (loops.counts extents splits) ls list)) front
      (others leaf (λ (outer : loops.Values). upto (loops.counts extents splits stage_loop.id) (λ (iteration : ℕ). list (loops.with stage_loop.id iteration outer)))
      (once leaf list repeats))

  pub last_repeats : (splits : List Split) (other : Split) (new_statement inner body : Stmt) (extent : ℕ) (some : 1 ≤ length splits) (are : loops.AreSplits splits)
      (sizes : SizedLoops) → sizes ≡ record { extents = extents; splits = take (length splits - 1) splits }
      → extent ≡ loops.counts sizes.extents sizes.splits (get_or splits (length splits - 1) other).of
      → Wraps inner body (over_loops extents (take (length splits - 1) splits))
      → ((before : loops.Values) → before (get_or splits (length splits - 1) other).of ≡ extent
      → Wraps new_statement inner (split_body before (length (take (length splits - 1) splits)) (get_or splits (length splits - 1) other)))
      → Wraps new_statement body (over_loops extents splits)
  last_repeats splits other new_statement inner body extent some are sizes sizes_are is others once leaf list repeats =
      let rest = take (length splits - 1) splits in
      let last = get_or splits (length splits - 1) other in
      let iterations : loops.counts extents rest last.of ≡ extent = sym (is ∙ ap (λ (s : SizedLoops). loops.counts s.extents s.splits last.of) sizes_are) in
      subst (Repeats func new_statement leaf) (over_last splits other some are extents list)
      (once (loops.counts extents rest) iterations leaf (over_loops extents rest list) (others leaf list repeats))

  pub whole_nest : (splits : List Split) (inside : List Loop) (new_statement inner body : Stmt) (sizes : SizedLoops)
      → sizes ≡ record { extents = extents; splits = splits }
      → Wraps inner body (over_loops extents splits) → Wraps new_statement inner (nest (loops.counts sizes.extents sizes.splits) inside)
      → Repeats func new_statement body (wholes extents splits inside)
  whole_nest splits inside new_statement inner body sizes sizes_are within around =
      subst (λ (s : SizedLoops). Repeats func new_statement body (nest (loops.counts s.extents s.splits) inside (over_loops extents splits (λ (whole : loops.Values).
      whole ∷ [])))) sizes_are
      (around body (over_loops extents splits (λ (whole : loops.Values). whole ∷ [])) (within body (λ (whole : loops.Values). whole ∷ [])
      (repeats_itself func body)))
