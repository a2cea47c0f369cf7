-- What calls a Func asks for it, also through inlined Funcs.
use Rattle.std.proofs.Common.{◌≡◌, ℕ, suc, ◌<◌, Bool, true, false, List, [], ◌∷◌, ◌++◌, Option, None, Some, ◌⊎◌, sym, ap, ◌∙◌, subst, arith, inl, inr}
use Rattle.std.specs.Prelude.{◌||◌, slice_get}
use Rattle.std.specs.List.{list_any}
use Rattle.std.proofs.lemmas.List.Folds.{list_any-append}
use Rattle.std.proofs.lemmas.Bool.{or_cases, or_left, or_right, eq-eqb, eqb-true}
use Rattle.halide_pipeline.specs.declared.definitions.Func.{Func}
use Rattle.halide_pipeline.specs.declared.definitions.Input.{Input}
use Rattle.halide_pipeline.specs.declared.definitions.Update.{Update}
use Rattle.halide_pipeline.specs.declared.expressions.Expr.{Expr}
use Rattle.halide_pipeline.specs.declared.expressions.Expr.TheOpen.{Expr-F}
use Rattle.halide_pipeline.specs.declared.expressions.Expr.TheOpen as layer
use Rattle.halide_pipeline.specs.declared.expressions.Source.{Source}
use Rattle.halide_pipeline.specs.declared.expressions.Source.TheVariants as sources
use Rattle.halide_pipeline.specs.declared.expressions.Variable.{Variable}
use Rattle.halide_pipeline.specs.Levels.{Both, left_of, right_of}
use Rattle.halide_pipeline.proofs.Folds.{folds_related}
use Rattle.schedule.specs.Placements.{is_func, calls, calls_at, second_calls, update_calls, updates_call, func_calls}
use Rattle.bounds_inlining.specs.Inlining.{Inside, answer, answered, through, through_at, inside, made_in, func_in, flagged}
use Rattle.bounds_inlining.proofs.Kept.{inside_computed}
use Rattle.bounds_inlining.proofs.Steps.{inside_before, inside_is}
use Rattle.bounds_ranges.specs.declared.expressions.ReadRange.{ReadRange}
use Rattle.bounds_ranges.specs.declared.expressions.OwnCalls.{OwnCalls}
use Rattle.bounds_ranges.specs.declared.ranges.Range.{Range}
use Rattle.bounds_ranges.specs.Expressions.{Ranged, ranging, second_asked, unasked_variable, ranges_where, is_anywhere, chosen, ranged_update, range_of, walked}
use Rattle.bounds.specs.declared.boxes.SourceBox.{SourceBox}
use Rattle.bounds.specs.Inference.{pure_variables, update_variables, own_calls, left, second_left, right, update_asked, updates_asked, func_asked}
use Rattle.bounds.specs.Boxes.{same_source}

module _ (sought : ℕ) where
  -- one of the reads is of the Func
  abbrev pub asks : List ReadRange → Bool
  asks asked = list_any (λ read. same_source read.source (sources.Func sought)) asked

  asks_first : (some more : List ReadRange) → asks some ≡ true → asks (some ++ more) ≡ true
  asks_first some more e = list_any-append (λ read. same_source read.source (sources.Func sought)) some more ∙ or_left (asks some) (asks more) e

  asks_second : (some more : List ReadRange) → asks more ≡ true → asks (some ++ more) ≡ true
  asks_second some more e = list_any-append (λ read. same_source read.source (sources.Func sought)) some more ∙ or_right (asks some) (asks more) e

module _ (sought : ℕ) (inputs : List Input) (funcs : List Func) (flags : List Bool) where
  abbrev is_inlined : ℕ → Bool
  is_inlined = flagged flags

  abbrev Asks : Ranged → Type 0
  Asks part = asks sought part.asked ≡ true

  -- ---- what answers calls

  abbrev within : List ℕ → ℕ → Inside Ranged
  within lasts count = inside (ranging lasts inputs) is_inlined funcs count

  -- An inlined Func asks for it, whatever its arguments are.
  pub record IsPutIn (func : ℕ) : Type 0 where
    pub own : Func
    pub own_is : slice_get funcs func ≡ Some own
    pub flag : flagged flags func ≡ true
    pub asked : (lasts : List ℕ) (vars : Variable → Ranged)
        → asks sought (through (ranging lasts inputs) (inside (ranging lasts inputs) (flagged flags) funcs func) vars own.pure).asked ≡ true

  -- What calls this Func asks for the one that is sought, which isn't inlined.
  abbrev pub Leads : ℕ → Type 0
  Leads func = ((func ≡ sought) × (flagged flags func ≡ false)) ⊎ IsPutIn func

  module _ (lasts : List ℕ) (x : Ranged) (y : Option Ranged) where
    -- what arguments ask is asked
    made_kept : (before : Inside Ranged) (found_func : Option Func) (other : Ranged) → Asks other
        → (asks sought x.asked ≡ true) ⊎ (asks sought (second_asked y) ≡ true)
        → Asks (answered other x y (made_in (ranging lasts inputs) before found_func))
    unfolding ranging
    made_kept before None other asked args = asked
    made_kept before (Some own) other asked (inl e) = asks_first sought x.asked _ e
    made_kept before (Some own) other asked (inr e) = asks_second sought x.asked _ (asks_first sought (second_asked y) _ e)

    kept : (count : ℕ) (s : Source) (other : Ranged) → Asks other → (asks sought x.asked ≡ true) ⊎ (asks sought (second_asked y) ≡ true)
        → Asks (answered other x y (answer (within lasts count) s))
    kept count (sources.Input func_index) other asked args = asked
    kept count (sources.Func func_index) other asked args =
        rw (inside_is (ranging lasts inputs) is_inlined funcs count func_index) (made_kept (within lasts func_index) (func_in funcs is_inlined count func_index) other asked
        args)

    called : (count func : ℕ) → func < count → Leads func → (other : Ranged) → (func ≡ sought → Asks other)
        → Asks (answered other x y (within lasts count func))
    unfolding ranging
    called count func before (inl own) other asked = rw (inside_computed (ranging lasts inputs) is_inlined funcs count func own.1) (asked own.0)
    called count func before (inr put) other asked =
        rw (inside_before (ranging lasts inputs) is_inlined funcs count func before put.flag)
        (rw put.own_is (asks_second sought x.asked _ (asks_second sought (second_asked y) _ (put.asked lasts _))))

  -- ---- an expression that calls such a Func

  module _ (func count : ℕ) (before : func < count) (leads : Leads func) where
    source_is : (s : Source) → is_func func s ≡ true → s ≡ sources.Func func
    source_is (sources.Input func_index) e = absurd cc
    source_is (sources.Func func_index) e = ap (λ (n : ℕ). sources.Func n) (eqb-true func_index func e)

    module _ (lasts : List ℕ) where
      -- a call of it, where what isn't inlined asks what arguments ask and then for the source itself
      call_asks : (s : Source) (x : Ranged) (y : Option Ranged) (other : Ranged) → (same_source s (sources.Func sought) ≡ true → Asks other)
          → is_func func s ≡ true
          → Asks (answered other x y (answer (within lasts count) s))
      call_asks s x y other asked e =
          subst (λ (t : Source). Asks (answered other x y (answer (within lasts count) t))) (sym (source_is s e))
          (called lasts x y count func before leads other
          (λ same. asked (ap (λ (t : Source). same_source t (sources.Func sought)) (source_is s e) ∙ eq-eqb func sought same)))

      own_read : (some : List ReadRange) (read : ReadRange) → same_source read.source (sources.Func sought) ≡ true → asks sought (some ++ (read ∷ [])) ≡ true
      own_read some read e = asks_second sought some (read ∷ []) (or_left (same_source read.source (sources.Func sought)) false e)

      abbrev R : Bool → Ranged → Type 0
      R test part = test ≡ true → Asks part

      module _ (vars : Variable → Ranged) where
        levels : (level : Expr-F (Both R)) → R (calls_at func (left_of R level)) (through_at (ranging lasts inputs) (within lasts count) vars
            (right_of R level))
        unfolding ranging
        levels (layer.Number n) e = absurd cc
        levels (layer.Variable v) e = absurd cc
        levels (layer.Binary op a b) e = elim (or_cases a.left b.left e) [
          | inl l ↦ asks_first sought a.right.asked b.right.asked (a.is l)
          | inr r ↦ asks_second sought a.right.asked b.right.asked (b.is r)
        ]
        levels (layer.Divide a n) e = a.is e
        levels (layer.Remainder a n) e = a.is e
        levels (layer.Select c a b) e = elim (or_cases (c.left || a.left) b.left e) [
          | inl l ↦ elim (or_cases c.left a.left l) [
            | inl m ↦ asks_first sought c.right.asked (a.right.asked ++ b.right.asked) (c.is m)
            | inr m ↦ asks_second sought c.right.asked (a.right.asked ++ b.right.asked) (asks_first sought a.right.asked b.right.asked (a.is m))
          ]
          | inr r ↦ asks_second sought c.right.asked (a.right.asked ++ b.right.asked) (asks_second sought a.right.asked b.right.asked (b.is r))
        ]
        levels (layer.Call1 s a) e = elim (or_cases (is_func func s) a.left e) [
          | inl l ↦ call_asks s a.right None _ (own_read a.right.asked _) l
          | inr r ↦ kept lasts a.right None count s _ (asks_first sought a.right.asked _ (a.is r)) (inl (a.is r))
        ]
        levels (layer.Call2 s a b) e = elim (or_cases (is_func func s || a.left) b.left e) [
          | inl l ↦ elim (or_cases (is_func func s) a.left l) [
            | inl m ↦ call_asks s a.right (Some b.right) _ (own_read (a.right.asked ++ b.right.asked) _) m
            | inr m ↦ kept lasts a.right (Some b.right) count s _ (asks_first sought (a.right.asked ++ b.right.asked) _ (asks_first sought a.right.asked
                b.right.asked (a.is m))) (inl (a.is m))
          ]
          | inr r ↦ kept lasts a.right (Some b.right) count s _ (asks_first sought (a.right.asked ++ b.right.asked) _ (asks_second sought a.right.asked
              b.right.asked (b.is r))) (inr (b.is r))
        ]

        pub expression_asks : (e : Expr) → calls func e ≡ true
            → asks sought (through (ranging lasts inputs) (inside (ranging lasts inputs) (flagged flags) funcs count) vars e).asked ≡ true
        unfolding calls through
        expression_asks e = folds_related R (calls_at func) (through_at (ranging lasts inputs) (within lasts count) vars) levels e

      -- ---- an expression of an update, where arguments may be anywhere and where not

      abbrev BothWays : Bool → (Bool → Ranged) → Type 0
      BothWays test part = test ≡ true → (around : Bool) → Asks (part around)

      abbrev at : Bool → Both BothWays → Both R
      at around part = record { left = part.left; right = part.right around; is = λ e. part.is e around }

      module _ (own : OwnCalls) (ranges : Variable → Range) where
        abbrev vars_where : Bool → Variable → Ranged
        vars_where around = unasked_variable (ranges_where lasts ranges around)

        both_ways : (level : Expr-F (Both BothWays))
            → BothWays (calls_at func (left_of BothWays level)) (λ around. through_at (ranging lasts inputs) (within lasts count) (vars_where around)
            (chosen own around (right_of BothWays level)))
        both_ways (layer.Number n) e around = levels (vars_where around) (layer.Number n) e
        both_ways (layer.Variable v) e around = levels (vars_where around) (layer.Variable v) e
        both_ways (layer.Binary op a b) e around = levels (vars_where around) (layer.Binary op (at around a) (at around b)) e
        both_ways (layer.Divide a n) e around = levels (vars_where around) (layer.Divide (at around a) n) e
        both_ways (layer.Remainder a n) e around = levels (vars_where around) (layer.Remainder (at around a) n) e
        both_ways (layer.Select c a b) e around = levels (vars_where around) (layer.Select (at around c) (at around a) (at around b)) e
        both_ways (layer.Call1 s a) e around = levels (vars_where around) (layer.Call1 s (at (is_anywhere own around s own.first_in_place) a)) e
        both_ways (layer.Call2 s a b) e around =
            levels (vars_where around) (layer.Call2 s (at (is_anywhere own around s own.first_in_place) a) (at (is_anywhere own around s own.second_in_place)
            b)) e

        update_part_asks : (e : Expr) → calls func e ≡ true → (around : Bool)
            → asks sought (ranged_update lasts inputs is_inlined funcs count own ranges e around).asked ≡ true
        unfolding calls ranged_update
        update_part_asks e =
            folds_related BothWays (calls_at func) (λ level around. through_at (ranging lasts inputs) (within lasts count) (vars_where around)
            (chosen own around level)) both_ways e

  -- ---- a later Func that calls such a Func

  module _ (func func_index : ℕ) (before : func < func_index) (leads : Leads func) (view : SourceBox) where
    second_asks : (update : Update) (index : Option Expr) → second_calls func index ≡ true
        → asks sought (second_left inputs funcs flags func_index view update index).asked ≡ true
    unfolding left
    second_asks update None e = absurd cc
    second_asks update (Some index) e = update_part_asks func func_index before leads view.lasts (own_calls func_index update) (range_of (update_variables view update))
        index e true

    update_asks : (update : Update) → update_calls func update ≡ true → asks sought (update_asked inputs funcs flags func_index view update) ≡ true
    unfolding update_asked left right
    update_asks update e = elim (or_cases (calls func update.left_x || second_calls func update.left_y) (calls func update.right) e) [
      | inl l ↦ elim (or_cases (calls func update.left_x) (second_calls func update.left_y) l) [
        | inl m ↦ asks_first sought first _ (update_part_asks func func_index before leads view.lasts (own_calls func_index update)
            (range_of (update_variables view update)) update.left_x m true)
        | inr m ↦ asks_second sought first _ (asks_first sought second _ (second_asks update update.left_y m))
      ]
      | inr r ↦ asks_second sought first _ (asks_second sought second _
          (or_right _ (asks sought (right inputs funcs flags func_index view update).asked)
          (update_part_asks func (suc func_index) (omega (arith, before)) leads view.lasts (own_calls func_index update) (range_of (update_variables view update))
          update.right r false)))
    ]
      where
        first : List ReadRange
        first = (left inputs funcs flags func_index view update update.left_x).asked

        second : List ReadRange
        second = (second_left inputs funcs flags func_index view update update.left_y).asked

    updates_ask : (updates : List Update) → updates_call func updates ≡ true → asks sought (updates_asked inputs funcs flags func_index view updates) ≡ true
    updates_ask [] e = absurd cc
    updates_ask (update ∷ others) e = elim (or_cases (update_calls func update) (updates_call func others) e) [
      | inl l ↦ asks_first sought (update_asked inputs funcs flags func_index view update) _ (update_asks update l)
      | inr r ↦ asks_second sought (update_asked inputs funcs flags func_index view update) _ (updates_ask others r)
    ]

    pub func_asks : (own : Func) → func_calls func own ≡ true → asks sought (func_asked inputs funcs flags func_index view own) ≡ true
    unfolding func_calls func_asked
    func_asks own e = elim (or_cases (calls func own.pure) (updates_call func own.updates) e) [
      | inl l ↦ asks_first sought pure _ (expression_asks func func_index before leads view.lasts (unasked_variable (range_of (pure_variables view))) own.pure l)
      | inr r ↦ asks_second sought pure _ (updates_ask own.updates r)
    ]
      where
        pure : List ReadRange
        pure = (walked view.lasts inputs flags funcs func_index (pure_variables view) own.pure).asked
