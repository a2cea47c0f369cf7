-- What the walk over an expression comes to at each variant.
use Rattle.std.proofs.Common.{◌≡◌, ℕ, Bool, List, [], ◌∷◌, ◌++◌, Option, None, Some, refl, sym, ap, subst, ◌∙◌}
use Rattle.std.proofs.lemmas.List.{append_assoc}
use mathlib.Core.Path.{fun_ext}
use Rattle.halide_pipeline.specs.declared.definitions.Func.{Func}
use Rattle.halide_pipeline.specs.declared.definitions.Input.{Input}
use Rattle.halide_pipeline.specs.declared.expressions.Expr.{Expr}
use Rattle.halide_pipeline.specs.declared.expressions.Expr.TheOpen.{Expr-F}
use Rattle.halide_pipeline.specs.declared.expressions.Expr.TheOpen as layer
use Rattle.halide_pipeline.specs.declared.expressions.Expr.TheVariants as e
use Rattle.halide_pipeline.specs.declared.expressions.Source.{Source}
use Rattle.halide_pipeline.specs.declared.expressions.Source.TheVariants as sources
use Rattle.halide_pipeline.specs.declared.expressions.Variable.{Variable}
use Rattle.halide_pipeline.specs.declared.expressions.Variable.TheVariants as variables
use Rattle.bounds_inlining.specs.Inlining.{Inside, none, arguments, answer, answered, inside, made_in, flagged, func_in, through, through_at}
use Rattle.halide_pipeline.proofs.Trees.{at_call1, at_call2}
use Rattle.bounds_inlining.proofs.Steps.{inside_is}
use Rattle.bounds_ranges.specs.declared.expressions.ReadRange.{ReadRange}
use Rattle.bounds_ranges.specs.declared.expressions.OwnCalls.{OwnCalls}
use Rattle.bounds_ranges.specs.declared.expressions.Variables.{Variables}
use Rattle.bounds_ranges.specs.declared.ranges.Range.{Range}
use Rattle.bounds_ranges.specs.Ranges.{IsFit, literal}
use Rattle.bounds_ranges.specs.Expressions.{Ranged, ranging, called, unasked, unasked_variable, AreFit, AreFitReads, range_of, walked, walked_update}
use Rattle.bounds_ranges.specs.Expressions.{ranged_update, ranges_where, is_anywhere, chosen}
use Rattle.bounds_ranges.specs.inner.Walking.{answer_of}

pub two_asked : (old first second a b : List ReadRange) → first ≡ old ++ a → second ≡ first ++ b → second ≡ old ++ (a ++ b)
two_asked old first second a b e f = f ∙ ap (λ (l : List ReadRange). l ++ b) e ∙ append_assoc old a b

-- the ranges of a definition's variables
pub variables_are : (lasts : List ℕ) (inputs : List Input) (x y zero : Range) → zero ≡ literal lasts 0
    → unasked_variable (range_of (record { first_argument = x; second_argument = y; first_reduction = zero; second_reduction = zero }))
    ≡ arguments (none (ranging lasts inputs)) (unasked x) (unasked y)
unfolding ranging
variables_are lasts inputs x y zero is = fun_ext by_variable
  where
    by_variable : (v : Variable) → unasked_variable (range_of (record {
      first_argument = x;
      second_argument = y;
      first_reduction = zero;
      second_reduction =
          zero;
    })) v ≡ arguments (none (ranging lasts inputs)) (unasked x) (unasked y) v
    by_variable variables.FirstArgument = refl
    by_variable variables.SecondArgument = refl
    by_variable variables.FirstReduction = ap unasked is
    by_variable variables.SecondReduction = ap unasked is

module _ (lasts : List ℕ) (inputs : List Input) (flags : List Bool) (funcs : List Func) (count : ℕ) where
  abbrev within : Inside Ranged
  within = inside (ranging lasts inputs) (flagged flags) funcs count

  abbrev alone : Source → Range → Range → Ranged
  alone s x y = record { range = called inputs s; asked = record { source = s; x = x; y = y } ∷ [] }

  -- after what an index reads, the answer to the ranges alone
  abbrev pub Behind1 : Source → Ranged → Option (Ranged → Option Ranged → Ranged) → Type 0
  Behind1 s x found =
      answered ((ranging lasts inputs).level (layer.Call1 s x)) x None found
      ≡ record {
        range = (answered (alone s x.range (literal lasts 0)) (unasked x.range) (Some (unasked (literal lasts 0))) found).range;
        asked = x.asked ++ (answered (alone s x.range (literal lasts 0)) (unasked x.range) (Some (unasked (literal lasts 0))) found).asked;
      }

  made1 : (s : Source) (x : Ranged) (deep : Inside Ranged) (func : Option Func) → Behind1 s x (made_in (ranging lasts inputs) deep func)
  unfolding ranging
  made1 s x deep None = refl
  made1 s x deep (Some func) = refl

  pub answered1 : (s : Source) (x : Ranged) → Behind1 s x (answer within s)
  unfolding ranging
  answered1 (sources.Input func_index) x = refl
  answered1 (sources.Func func_index) x =
      subst (λ (found : Option (Ranged → Option Ranged → Ranged)). Behind1 (sources.Func func_index) x found) (sym (inside_is (ranging lasts inputs) (flagged flags)
      funcs count func_index))
      (made1 (sources.Func func_index) x (inside (ranging lasts inputs) (flagged flags) funcs func_index) (func_in funcs (flagged flags) count func_index))

  abbrev pub Behind2 : Source → Ranged → Ranged → Option (Ranged → Option Ranged → Ranged) → Type 0
  Behind2 s x y found =
      answered ((ranging lasts inputs).level (layer.Call2 s x y)) x (Some y) found
      ≡ record {
        range = (answered (alone s x.range y.range) (unasked x.range) (Some (unasked y.range)) found).range;
        asked = x.asked ++ (y.asked ++ (answered (alone s x.range y.range) (unasked x.range) (Some (unasked y.range)) found).asked);
      }

  made2 : (s : Source) (x y : Ranged) (deep : Inside Ranged) (func : Option Func) → Behind2 s x y (made_in (ranging lasts inputs) deep func)
  unfolding ranging
  made2 s x y deep None =
      ap (λ (l : List ReadRange). record { range = called inputs s; asked = l }) (append_assoc x.asked y.asked (record { source = s; x = x.range; y = y.range }
      ∷ []))
  made2 s x y deep (Some func) = refl

  pub answered2 : (s : Source) (x y : Ranged) → Behind2 s x y (answer within s)
  unfolding ranging
  answered2 (sources.Input func_index) x y =
      ap (λ (l : List ReadRange). record { range = called inputs (sources.Input func_index); asked = l }) (append_assoc x.asked y.asked
      (record { source = sources.Input func_index; x = x.range; y = y.range } ∷ []))
  answered2 (sources.Func func_index) x y =
      subst (λ (found : Option (Ranged → Option Ranged → Ranged)). Behind2 (sources.Func func_index) x y found)
      (sym (inside_is (ranging lasts inputs) (flagged flags) funcs count func_index))
      (made2 (sources.Func func_index) x y (inside (ranging lasts inputs) (flagged flags) funcs func_index) (func_in funcs (flagged flags) count func_index))

  -- a call that isn't inlined
  pub answer_alone : (func_index : ℕ) (s : Source) (x y : Range) → s ≡ sources.Func func_index → func_in funcs (flagged flags) count func_index ≡ None
      → answer_of lasts inputs flags funcs count s x y ≡ alone s x y
  answer_alone func_index s x y is found =
      ap (λ (t : Source). answered (alone s x y) (unasked x) (Some (unasked y)) (answer within t)) is
      ∙ ap (λ (i : Option (Ranged → Option Ranged → Ranged)). answered (alone s x y) (unasked x) (Some (unasked y)) i) (inside_is (ranging lasts inputs)
      (flagged flags) funcs count func_index)
      ∙ ap (λ (f : Option Func). answered (alone s x y) (unasked x) (Some (unasked y)) (made_in (ranging lasts inputs) (inside (ranging lasts inputs)
      (flagged flags) funcs func_index) f)) found

  -- one that is
  pub answer_inlined : (func_index : ℕ) (func : Func) (s : Source) (x y zero : Range) → s ≡ sources.Func func_index → func_in funcs (flagged flags) count func_index
      ≡ Some func → zero ≡ literal lasts 0
      → answer_of lasts inputs flags funcs count s x y
      ≡ walked lasts inputs flags funcs func_index (record { first_argument = x; second_argument = y; first_reduction = zero; second_reduction = zero }) func.pure
  unfolding ranging
  answer_inlined func_index func s x y zero is found z =
      ap (λ (t : Source). answered (alone s x y) (unasked x) (Some (unasked y)) (answer within t)) is
      ∙ ap (λ (i : Option (Ranged → Option Ranged → Ranged)). answered (alone s x y) (unasked x) (Some (unasked y)) i) (inside_is (ranging lasts inputs)
      (flagged flags) funcs count func_index)
      ∙ ap (λ (f : Option Func). answered (alone s x y) (unasked x) (Some (unasked y)) (made_in (ranging lasts inputs) (inside (ranging lasts inputs)
      (flagged flags) funcs func_index) f)) found
      ∙ ap (λ (vars : Variable → Ranged). through (ranging lasts inputs) (inside (ranging lasts inputs) (flagged flags) funcs func_index) vars func.pure)
      (sym (variables_are lasts inputs x y zero z))

pub are_fit : (lasts : List ℕ) (x y zero : Range) → IsFit lasts x → IsFit lasts y → IsFit lasts zero
    → AreFit lasts (record { first_argument = x; second_argument = y; first_reduction = zero; second_reduction = zero })
are_fit lasts x y zero fx fy fz variables.FirstArgument = fx
are_fit lasts x y zero fx fy fz variables.SecondArgument = fy
are_fit lasts x y zero fx fy fz variables.FirstReduction = fz
are_fit lasts x y zero fx fy fz variables.SecondReduction = fz

pub three_asked : (old first second third a b c : List ReadRange) → first ≡ old ++ a → second ≡ first ++ b → third ≡ second ++ c → third ≡ old ++ (a ++ (b ++ c))
three_asked old first second third a b c e f g = two_asked old first third a (b ++ c) e (two_asked first second third b c f g)

pub joined2 : (old first second a b c d whole : List ReadRange) → first ≡ old ++ a → a ≡ c → second ≡ first ++ b → b ≡ d → whole ≡ c ++ d → second ≡ old ++ whole
joined2 old first second a b c d whole e f g h i =
    two_asked old first second c d (e ∙ ap (λ (l : List ReadRange). old ++ l) f) (g ∙ ap (λ (l : List ReadRange). first ++ l) h)
    ∙ ap (λ (l : List ReadRange). old ++ l) (sym i)

pub joined3 : (old first second third a b c d g h whole : List ReadRange) → first ≡ old ++ a → a ≡ d → second ≡ first ++ b → b ≡ g → third ≡ second ++ c → c ≡ h
    → whole ≡ d ++ (g ++ h) → third ≡ old ++ whole
joined3 old first second third a b c d g h whole e f i j k l m =
    three_asked old first second third d g h (e ∙ ap (λ (x : List ReadRange). old ++ x) f) (i ∙ ap (λ (x : List ReadRange). first ++ x) j) (k
    ∙ ap (λ (x : List ReadRange). second ++ x) l) ∙ ap (λ (x : List ReadRange). old ++ x) (sym m)

-- ---- an update's calls

module _ (lasts : List ℕ) (inputs : List Input) (flags : List Bool) (funcs : List Func) (count : ℕ) (own_calls : OwnCalls) (given : Variables) (expr : Expr) where
  abbrev of_update : Bool → Expr → Ranged
  of_update around part = walked_update lasts inputs flags funcs count own_calls around given part

  abbrev within_update : Inside Ranged
  within_update = inside (ranging lasts inputs) (flagged flags) funcs count

  abbrev level_update : Expr-F (Bool → Ranged) → Bool → Ranged
  level_update level around = through_at (ranging lasts inputs) within_update (unasked_variable (ranges_where lasts (range_of given) around))
      (chosen own_calls around level)

  abbrev first_at : Bool → Source → Bool
  first_at around s = is_anywhere own_calls around s own_calls.first_in_place

  abbrev second_at : Bool → Source → Bool
  second_at around s = is_anywhere own_calls around s own_calls.second_in_place

  pub update_call1 : (around : Bool) (s : Source) (a : Expr) → expr ≡ e.Call1 s a
      → of_update around expr
      ≡ record {
        range = (answer_of lasts inputs flags funcs count s (of_update (first_at around s) a).range (literal lasts 0)).range;
        asked = (of_update (first_at around s) a).asked ++ (answer_of lasts inputs flags funcs count s (of_update (first_at around s) a).range
            (literal lasts 0)).asked;
      }
  unfolding ranged_update
  update_call1 around s a is =
      ap (of_update around) is
      ∙ ap (λ (f : Bool → Ranged). f around) (at_call1 (Bool → Ranged) level_update s a)
      ∙ answered1 lasts inputs flags funcs count s (of_update (first_at around s) a)

  pub update_call2 : (around : Bool) (s : Source) (a b : Expr) → expr ≡ e.Call2 s a b
      → of_update around expr
      ≡ record {
        range = (answer_of lasts inputs flags funcs count s (of_update (first_at around s) a).range (of_update (second_at around s) b).range).range;
        asked = (of_update (first_at around s) a).asked
            ++ ((of_update (second_at around s) b).asked ++ (answer_of lasts inputs flags funcs count s (of_update (first_at around s) a).range
            (of_update (second_at around s) b).range).asked);
      }
  unfolding ranged_update
  update_call2 around s a b is =
      ap (of_update around) is
      ∙ ap (λ (f : Bool → Ranged). f around) (at_call2 (Bool → Ranged) level_update s a b)
      ∙ answered2 lasts inputs flags funcs count s (of_update (first_at around s) a) (of_update (second_at around s) b)

-- one more read whose ranges stay within the words
pub fit_behind : (lasts : List ℕ) (reads : List ReadRange) (source : Source) (x y : Range) → AreFitReads lasts reads → IsFit lasts x → IsFit lasts y
    → AreFitReads lasts (reads ++ record { source = source; x = x; y = y } ∷ [])
unfolding AreFitReads
fit_behind lasts [] source x y all first second = ((first, second), tt)
fit_behind lasts (read ∷ others) source x y all first second = (all.0, fit_behind lasts others source x y all.1 first second)
