-- An update that breaks no rule keeps the rules of a pipeline.
use Rattle.std.proofs.Common.{◌≡◌, ℕ, zero, suc, ◌-◌, ◌+◌, ◌≤◌, ◌<◌, inl, inr, Bool, true, false, cond, not, List, length, Option, Some, None, refl, sym, ap}
use Rattle.std.proofs.Common.{subst, ◌∙◌, arith}
use Rattle.std.specs.Prelude.{◌==◌, ◌&&◌, ◌||◌, ◌^◌, ◌%◌, nat_le, nat_lt, slice_get, is_some}
use Rattle.std.proofs.Math.Nat.{mod-eq_of_lt}
use Rattle.std.proofs.lemmas.Bool.{and_from, or_parts, or_left, or_right, not-false, ltb-false, le-leb, eqb-true}
use Rattle.std.specs.Str.{bytes_eq}
use Rattle.halide_pipeline.specs.declared.definitions.Func.{Func}
use Rattle.halide_pipeline.specs.declared.definitions.Update.{Update}
use Rattle.halide_pipeline.specs.declared.expressions.Variable.{Variable}
use Rattle.halide_pipeline.specs.declared.expressions.Variable.TheVariants as variables
use Rattle.halide_pipeline.specs.WellFormed.{dimensions, is_first_in_place, is_second, is_second_in_place, is_alone, IsFunc, IsUpdate, is_read}
use Rattle.halide_pipeline.specs.WellFormed.{is_update_variable, keeps, keeps_index, is_minimum, is_second_minimum, is_box, is_width, is_height}
use Rattle.halide_pipeline.specs.Expressions.{uses}
use Rattle.halide_pipeline.specs.Words.{subtract}
use Rattle.halide_pipeline.specs.WellFormed as w
use Rattle.halide_parser_syntax.specs.declared.lines.ReductionBounds.{ReductionBounds}
use Rattle.halide_parser_syntax.specs.declared.lines.Change.{Change}
use Rattle.halide_parser_syntax.specs.declared.lines.AlgorithmLine.TheVariants as line
use Rattle.halide_parser_syntax.specs.declared.tokens.Token.{Token}
use Rattle.halide_parser_syntax.specs.inner.Algebra.{made}
use Rattle.halide_parser_syntax.specs.Grammar.{Written, IsRight}
use Rattle.halide_parser_syntax.specs.LineGrammar.{IsRightIndex}
use Rattle.halide_parser_syntax.specs.inner.Algebra.{made_index}
use Rattle.halide_parser.specs.declared.judging.Judged.{Judged}
use Rattle.halide_parser.specs.declared.readers.AlgorithmReader.{AlgorithmReader}
use Rattle.halide_parser.specs.declared.scopes.NameScope.{NameScope}
use Rattle.halide_parser.specs.inner.Judging as j
use Rattle.halide_parser.specs.inner.JudgedLines.{tree_of}
use Rattle.halide_parser.specs.inner.JudgedLines as lines
use Rattle.halide_parser.specs.Meaning.{second_tree, reduction_of, second_reduction, update_of, with_update, applied}
use Rattle.halide_parser.specs.Expressions as rd
use Rattle.halide_parser.specs.Rules as r
use Rattle.halide_pipeline.specs.Pipelines.{is_named}
use Rattle.halide_parser.specs.Expressions.{variable, known_scope, change_scope, change_scope_of, bounds_name}
use Rattle.halide_parser.proofs.Faultless.{IsFaultless}
use Rattle.halide_parser.proofs.InPlace.{Calm, calm_parts, Stays, stays_there, placed, strict_join, unused_none}
use Rattle.halide_parser.proofs.Growing.{get-last, updates_grow, func_grows, update_grows, source-update, get-update, length-update, updated}
use Rattle.halide_parser.proofs.Keeping.{IsKept, IsNamed, may, may_before, box, named, none_of_three, none_of_four}
use Rattle.halide_parser.proofs.KeptLines.{picked, two_arguments, no_output, one_more}
use Rattle.halide_parser.proofs.KeptTrees.{Clean, clean_parts, sound, tree_kept}
use Rattle.halide_parser.proofs.Numbers.{IsSmall}
use Rattle.halide_parser.proofs.ShortNames.{ShortChange}
use Rattle.halide_parser.proofs.Sizes.{sized}
use Rattle.halide_parser.proofs.Wholeness.{IsPlain, plain_parts, fits_is, some_tree}

-- ---- variables

second_there : (second : Option ReductionBounds) (name : List ℕ) → is_named (bounds_name second) name ≡ true → is_some (second_reduction second) ≡ true
second_there None name e = cc
second_there (Some bounds) name e = refl

update_known : (f : Func) (own : Option ℕ) (u : Change Written) (name : List ℕ) (v : Variable) → variable (known_scope f own u) name ≡ Some v
    → is_update_variable (dimensions f) (second_reduction u.second) v ≡ true
unfolding variable
update_known f own u name v e =
    picked (is_update_variable (dimensions f) (second_reduction u.second)) (is_named (Some f.first_argument) name) (is_named f.second_argument name)
    (is_named (Some u.first.name) name) (is_named (bounds_name u.second) name) v e
    refl (two_arguments f.second_argument name) (λ is. refl) (second_there u.second name)

-- ---- reductions

word_of : (is_negative : Bool) (minimum : ℕ) → nat_lt 0x1000000 minimum ≡ false → is_minimum (cond is_negative (subtract 0 minimum) minimum) ≡ true
unfolding subtract
word_of false minimum near = or_left (nat_le minimum 0x1000000) _ (le-leb minimum 0x1000000 (ltb-false 0x1000000 minimum near))
word_of true zero near = refl
word_of true (suc n) near =
    let few : suc n ≤ 0x1000000 = ltb-false 0x1000000 (suc n) near in
    let below : 0 + (0x100000000 - suc n) < 0x100000000 = omega arith in
    let plain : 0 + (0x100000000 - suc n) ≡ 0x100000000 - suc n = omega arith in
    let word : (0 + (2 ^ 32 - suc n)) % 2 ^ 32 ≡ 0x100000000 - suc n = mod-eq_of_lt below ∙ plain in
    rw word (or_right (nat_le (0x100000000 - suc n) 0x1000000) _ (and_from (nat_le 0xff000000 (0x100000000 - suc n)) (nat_le (0x100000000 - suc n) 0xffffffff)
    (le-leb 0xff000000 (0x100000000 - suc n) (omega (arith, few))) (le-leb (0x100000000 - suc n) 0xffffffff (omega (arith, few)))))

minimum_is : (b : ReductionBounds) → nat_lt 0x1000000 b.minimum ≡ false → is_minimum (reduction_of b).minimum ≡ true
minimum_is b near = word_of b.is_negative b.minimum near

second_minimum_is : (second : Option ReductionBounds) → r.is_second_far second ≡ false → is_second_minimum (second_reduction second) ≡ true
second_minimum_is None near = refl
second_minimum_is (Some b) near = minimum_is b near

box_is : (first : ReductionBounds) (second : Option ReductionBounds) → r.is_bad_box first.extent (r.second_extent second) ≡ false
    → (is_width first.extent && is_height first.extent (w.second_extent (second_reduction second))) ≡ true
box_is first None e = let sizes = box first.extent 1 e in and_from (is_width first.extent) (is_height first.extent 1) sizes.0 sizes.1
box_is first (Some b) e = let sizes = box first.extent b.extent e in and_from (is_width first.extent) (is_height first.extent b.extent) sizes.0 sizes.1

-- ---- expressions

-- the branch that is taken, told apart
told : (s m u : Bool) → cond s m u ≡ false → ((not s && u) ≡ false) × ((s && m) ≡ false)
told true m u e = (refl, e)
told false m u e = (e, refl)

unused_or : (s u : Bool) → (not s && u) ≡ false → (s || not u) ≡ true
unused_or true u e = refl
unused_or false true e = cc
unused_or false false e = refl

same_last : (last : Option ℕ) (place : ℕ) → r.same_place last (Some place) ≡ true → last ≡ Some place
same_last None place e = cc
same_last (Some p) place e = ap Some (eqb-true p place e)

abbrev judged_change : AlgorithmReader → NameScope → Change Written → Change Judged
judged_change reader scope u = record {
  name = u.name;
  left_x = made (j.judging reader scope) u.left_x;
  left_y = made_index (j.judging reader scope) u.left_y;
  right = made (j.judging reader scope) u.right;
  first = u.first;
  second = u.second;
}

abbrev pub IsSmallIndex : Option Written → Type 0
IsSmallIndex None = Unit {0}
IsSmallIndex (Some index) = IsSmall index

pub record IsRightChange (u : Change Written) : Type 0 where
  pub left_x : IsRight u.left_x
  pub left_y : IsRightIndex u.left_y
  pub right : IsRight u.right

pub record IsSmallChange (u : Change Written) : Type 0 where
  pub left_x : IsSmall u.left_x
  pub left_y : IsSmallIndex u.left_y
  pub right : IsSmall u.right

module _ (reader : AlgorithmReader) (scope : NameScope) (u : Change Written) (kept : IsKept reader) (is : IsNamed reader u.name) (scope_is : scope
    ≡ known_scope is.func (Some is.place) u)
    (last : suc is.place ≡ length reader.funcs) where
  abbrev has : Variable → Bool
  has = is_update_variable (dimensions is.func) (second_reduction u.second)

  known : (name : List ℕ) (v : Variable) → variable scope name ≡ Some v → has v ≡ true
  known name v e = update_known is.func (Some is.place) u name v (rw scope_is at e)

  own : scope.own ≡ Some is.place
  own = ap (λ (s : NameScope). s.own) scope_is

  abbrev judge : Written → Judged
  judge = made (j.judging reader scope)

  left_kept : (index : Written) → IsSmall index → Clean true (judge index).marks
      → keeps (is_read reader.inputs reader.funcs is.place) has (tree_of (judge index)) ≡ true
  left_kept index is_small clean =
      let reads = is_read reader.inputs reader.funcs is.place in
      tree_kept reads has (judge index).tree (sound reads has true reader scope (may_before reader scope is.place kept own last) known index is_small clean)

  index_kept : (index : Option Written) → IsSmallIndex index → Clean true (lines.marks_of (made_index (j.judging reader scope) index))
      → (dimensions is.func == r.count_with (made_index (j.judging reader scope) index)) ≡ true
      → keeps_index (is_read reader.inputs reader.funcs is.place) has (dimensions is.func) (second_tree tree_of (made_index (j.judging reader scope) index))
      ≡ true
  index_kept None is_small clean counts = counts
  index_kept (Some index) is_small clean counts =
      and_from (dimensions is.func == 2) (keeps (is_read reader.inputs reader.funcs is.place) has (tree_of (judge index))) counts (left_kept index is_small
      clean)

  right_kept : IsSmall u.right → Clean false (judge u.right).marks → keeps (is_read reader.inputs reader.funcs (suc is.place)) has (tree_of (judge u.right))
      ≡ true
  right_kept is_small clean =
      let reads = is_read reader.inputs reader.funcs (length reader.funcs) in
      let tree = tree_kept reads has (judge u.right).tree (sound reads has false reader scope (may reader scope kept) known u.right is_small clean) in
      subst (λ (n : ℕ). keeps (is_read reader.inputs reader.funcs n) has (tree_of (judge u.right)) ≡ true) (sym last) tree

  abbrev change : Change Judged
  change = judged_change reader scope u

  -- ---- arguments in place

  abbrev first : Bool
  first = is_alone variables.FirstArgument change.left_x.alone

  abbrev second : Bool
  second = lines.is_in_place change.left_y variables.SecondArgument

  calm : lines.is_moved change ≡ false → Calm first second (lines.change_marks change)
  calm shape =
      let moved = none_of_three (lines.left_marks change).calls_own _ _ shape in
      let in_first = told first (lines.change_marks change).moves_first (lines.change_marks change).uses_first moved.1 in
      let in_second = told second (lines.change_marks change).moves_second (lines.change_marks change).uses_second moved.2 in
      record { uses_first = in_first.0; uses_second = in_second.0; moves_first = in_first.1; moves_second = in_second.1 }

  plain : (tokens : List Token) → IsFaultless reader tokens (line.Update change) → IsPlain (lines.change_marks change)
  plain tokens right = record {
    known = (or_parts (not (r.is_func reader u.name)) (lines.change_marks change).is_unknown right.known).1;
    counts = (or_parts (r.is_other_count reader u.name (r.count_with change.left_y)) (lines.change_marks change).is_wrong_count right.counts).1;
    divisors = right.divisors;
  }

  side_stays : (side : Written) → IsPlain (judge side).marks → lines.exceeds (judge side) ≡ false → Calm first second (judge side).marks
      → Stays is.place first second (tree_of (judge side)) (judge side).alone
  side_stays side in_plain fits in_calm =
      let some = some_tree reader scope side in_plain (fits_is (judge side).nodes (judge side).nesting
      (not-false (w.fits (judge side).nodes (judge side).nesting) fits)) in
      stays_there is.place first second (judge side).tree (judge side).alone some (placed is.place first second reader scope own side in_calm)

  -- what is known of the second index
  record IndexStays (judged : Option Judged) : Type 0 where
    in_first : (not first && w.is_used_in variables.FirstArgument (second_tree tree_of judged)) ≡ false
    in_second : (not second && w.is_used_in variables.SecondArgument (second_tree tree_of judged)) ≡ false
    stands : is_second (second_tree tree_of judged) ≡ lines.is_in_place judged variables.SecondArgument

  index_stays : (index : Option Written) → IsPlain (lines.marks_of (made_index (j.judging reader scope) index))
      → r.second_exceeds lines.exceeds (made_index (j.judging reader scope) index) ≡ false
      → Calm first second (lines.marks_of (made_index (j.judging reader scope) index))
      → IndexStays (made_index (j.judging reader scope) index)
  index_stays None in_plain fits in_calm = record { in_first = unused_none first; in_second = unused_none second; stands = refl }
  index_stays (Some index) in_plain fits in_calm =
      let stays = side_stays index in_plain fits in_calm in
      record { in_first = stays.unused.in_first; in_second = stays.unused.in_second; stands = stays.variable variables.SecondArgument }

  abbrev new : Update
  new = update_of tree_of change

  record ArePlaced : Type 0 where
    first_argument : (is_first_in_place new || not (w.is_used variables.FirstArgument new)) ≡ true
    second_argument : (is_second_in_place new || not (w.is_used variables.SecondArgument new)) ≡ true
    own_calls : (w.calls_in_place is.place (is_first_in_place new) (is_second_in_place new) new.right).stays ≡ true

  are_placed : (tokens : List Token) → IsFaultless reader tokens (line.Update change) → lines.is_moved change ≡ false
      → (lines.exceeds change.left_x || r.second_exceeds lines.exceeds change.left_y || lines.exceeds change.right) ≡ false → ArePlaced
  are_placed tokens right shape within =
      let sizes = none_of_three (lines.exceeds change.left_x) (r.second_exceeds lines.exceeds change.left_y) (lines.exceeds change.right) within in
      let all_plain = plain_parts (lines.left_marks change) change.right.marks (plain tokens right) in
      let left_plain = plain_parts change.left_x.marks (lines.marks_of change.left_y) all_plain.0 in
      let all_calm = calm_parts first second (lines.left_marks change) change.right.marks (calm shape) in
      let left_calm = calm_parts first second change.left_x.marks (lines.marks_of change.left_y) all_calm.0 in
      let x = side_stays u.left_x left_plain.0 sizes.0 left_calm.0 in
      let y = index_stays u.left_y left_plain.1 sizes.1 left_calm.1 in
      let side = side_stays u.right all_plain.1 sizes.2 all_calm.1 in
      let is_first : is_first_in_place new ≡ first = x.variable variables.FirstArgument in
      let is_second : is_second_in_place new ≡ second = y.stands in
      let no_first = strict_join (not first) (uses variables.FirstArgument new.left_x || w.is_used_in variables.FirstArgument new.left_y)
      (uses variables.FirstArgument new.right)
      (strict_join (not first) (uses variables.FirstArgument new.left_x) (w.is_used_in variables.FirstArgument new.left_y) x.unused.in_first y.in_first)
      side.unused.in_first in
      let no_second = strict_join (not second) (uses variables.SecondArgument new.left_x || w.is_used_in variables.SecondArgument new.left_y)
      (uses variables.SecondArgument new.right)
      (strict_join (not second) (uses variables.SecondArgument new.left_x) (w.is_used_in variables.SecondArgument new.left_y) x.unused.in_second y.in_second)
      side.unused.in_second in
      record {
        first_argument = subst (λ (b : Bool). (b || not (w.is_used variables.FirstArgument new)) ≡ true) (sym is_first)
            (unused_or first (w.is_used variables.FirstArgument new) no_first);
        second_argument = subst (λ (b : Bool). (b || not (w.is_used variables.SecondArgument new)) ≡ true) (sym is_second)
            (unused_or second (w.is_used variables.SecondArgument new) no_second);
        own_calls = subst (λ (b : Bool). (w.calls_in_place is.place b (is_second_in_place new) new.right).stays ≡ true) (sym is_first)
            (subst (λ (b : Bool). (w.calls_in_place is.place first b new.right).stays ≡ true) (sym is_second) side.stays);
      }

  index_sized : (index : Option Written) → IsRightIndex index → IsPlain (lines.marks_of (made_index (j.judging reader scope) index))
      → r.second_exceeds lines.exceeds (made_index (j.judging reader scope) index) ≡ false
      → w.is_second_sized (second_tree tree_of (made_index (j.judging reader scope) index)) ≡ true
  index_sized None written in_plain within = refl
  index_sized (Some index) written in_plain within = sized reader scope index written in_plain within

  new_reductions : (tokens : List Token) → ShortChange u → IsFaultless reader tokens (line.Update change)
      → w.are_reductions is.func.first_argument is.func.second_argument (update_of tree_of change) ≡ true
  new_reductions tokens short right =
      let taken = or_parts (r.is_argument reader u.name u.first.name) (r.is_second_taken reader u.name u.first.name u.second) right.free in
      let first : w.is_argument_name is.func.first_argument is.func.second_argument u.first.name ≡ false =
      ap (λ (f : Option Func). r.is_argument_of f u.first.name) (sym is.func_is) ∙ taken.0 in
      and_from (w.is_name u.first.name && not (w.is_argument_name is.func.first_argument is.func.second_argument u.first.name))
      (w.is_second_reduction is.func.first_argument is.func.second_argument u.first.name (second_reduction u.second))
      (and_from (w.is_name u.first.name) (not (w.is_argument_name is.func.first_argument is.func.second_argument u.first.name)) short.first (ap not first))
      (second_apart u.second short.second taken.1)
    where
      second_apart : (second : Option ReductionBounds) → w.is_second_name (bounds_name second) ≡ true → r.is_second_taken reader u.name u.first.name second ≡ false
          → w.is_second_reduction is.func.first_argument is.func.second_argument u.first.name (second_reduction second) ≡ true
      second_apart None short e = refl
      second_apart (Some b) short e =
          let apart : (bytes_eq b.name u.first.name || w.is_argument_name is.func.first_argument is.func.second_argument b.name) ≡ false =
          ap (λ (f : Option Func). bytes_eq b.name u.first.name || r.is_argument_of f b.name) (sym is.func_is) ∙ e in
          and_from (w.is_name b.name) (not (bytes_eq b.name u.first.name || w.is_argument_name is.func.first_argument is.func.second_argument b.name)) short
          (ap not apart)

  new_update : (tokens : List Token) → IsSmallChange u → IsRightChange u → IsFaultless reader tokens (line.Update change)
      → IsUpdate reader.inputs reader.funcs is.place (dimensions is.func) (update_of tree_of change)
  new_update tokens is_small written right =
      let limits = none_of_four (r.is_full reader u.name) (lines.exceeds change.left_x || r.second_exceeds lines.exceeds change.left_y
      || lines.exceeds change.right) (nat_lt 0x1000000 u.first.minimum || r.is_second_far u.second) (r.is_bad_box u.first.extent (r.second_extent u.second))
      right.within in
      let far = or_parts (nat_lt 0x1000000 u.first.minimum) (r.is_second_far u.second) limits.2 in
      let shape = or_parts (not (r.same_place reader.last_func (rd.func_place reader u.name))) (lines.is_moved change) right.shaped in
      let moved = none_of_three (lines.left_marks change).calls_own _ _ shape.1 in
      let in_place = are_placed tokens right shape.1 limits.1 in
      let all_plain = plain_parts (lines.left_marks change) change.right.marks (plain tokens right) in
      let left_plain = plain_parts change.left_x.marks (lines.marks_of change.left_y) all_plain.0 in
      let exceed = none_of_three (lines.exceeds change.left_x) (r.second_exceeds lines.exceeds change.left_y) (lines.exceeds change.right) limits.1 in
      let counts = or_parts (r.is_other_count reader u.name (r.count_with change.left_y)) (lines.change_marks change).is_wrong_count right.counts in
      let sides = or_parts (lines.left_marks change).is_wrong_count change.right.marks.is_wrong_count counts.1 in
      let left = clean_parts true change.left_x.marks (lines.marks_of change.left_y) (record { counts = sides.0; own = moved.0 }) in
      let other : not (dimensions is.func == r.count_with change.left_y) ≡ false = ap (λ (f : Option Func). r.is_other_count_of f (r.count_with change.left_y))
      (sym is.func_is) ∙ counts.0 in
      record {
        left_x = left_kept u.left_x is_small.left_x left.0;
        left_y = index_kept u.left_y is_small.left_y left.1 (not-false (dimensions is.func == r.count_with change.left_y) other);
        right = right_kept is_small.right (record { counts = sides.1; own = refl });
        first_argument = in_place.first_argument;
        second_argument = in_place.second_argument;
        own_calls = in_place.own_calls;
        left_x_sized = sized reader scope u.left_x written.left_x left_plain.0 exceed.0;
        left_y_sized = index_sized u.left_y written.left_y left_plain.1 exceed.1;
        right_sized = sized reader scope u.right written.right all_plain.1 exceed.2;
        minimum = minimum_is u.first far.0;
        second_minimum = second_minimum_is u.second far.1;
        box = box_is u.first u.second limits.3;
      }

-- ---- the Func with its update

updates_of : (reader : AlgorithmReader) (f : Func) (place : ℕ) (update : Update) → IsFunc reader.inputs reader.funcs place f → nat_le 4 (length f.updates) ≡ false
    → IsUpdate reader.inputs reader.funcs place (dimensions f) update
    → w.are_reductions f.first_argument f.second_argument update ≡ true → IsFunc reader.inputs (with_update reader.funcs update) place (updated f update)
updates_of reader f place update is few new apart =
    let grows = updates_grow reader.inputs reader.funcs update in
    let old = func_grows reader.inputs reader.funcs reader.inputs (with_update reader.funcs update) grows place f is in
    record {
      pure = old.pure;
      pure_sized = old.pure_sized;
      arguments = old.arguments;
      few_updates = one_more f.updates update 4 few;
      reductions = λ at u found. elim (get-last f.updates update at u found) [
        | inl before ↦ old.reductions at u before
        | inr last ↦ subst (λ (x : Update). w.are_reductions f.first_argument f.second_argument x ≡ true) last.1 apart
      ];
      updates = λ at u found. elim (get-last f.updates update at u found) [
        | inl before ↦ old.updates at u before
        | inr last ↦ subst (λ (x : Update). IsUpdate reader.inputs (with_update reader.funcs update) place (dimensions f) x) last.1
            (update_grows reader.inputs reader.funcs reader.inputs (with_update reader.funcs update) grows place (dimensions f) update new)
      ];
    }

same_func : (reader : AlgorithmReader) (place k : ℕ) (f g : Func) → suc place ≡ length reader.funcs → suc k ≡ length reader.funcs → slice_get reader.funcs place ≡ Some f
    → slice_get reader.funcs k ≡ Some g → (place ≡ k) × (f ≡ g)
same_func reader place k f g last last' found found' =
    let e : place ≡ k = omega (arith, last, last') in
    let is : Some f ≡ Some g = sym found ∙ ap (slice_get reader.funcs) e ∙ found' in
    (e, cc)

pub update_keeps : (reader : AlgorithmReader) (tokens : List Token) (u : Change Written) → IsKept reader → IsSmallChange u → IsRightChange u → ShortChange u
    → IsFaultless reader tokens (line.Update (judged_change reader (change_scope reader u) u))
    → IsKept (applied tree_of reader (line.Update (judged_change reader (change_scope reader u) u)))
update_keeps reader tokens u kept is_small written short right =
    let scope = change_scope reader u in
    let change = judged_change reader scope u in
    let update = update_of tree_of change in
    let is = named reader u.name kept (or_parts (not (r.is_func reader u.name)) _ right.known).0 in
    let scope_is : scope ≡ known_scope is.func (Some is.place) u = ap (λ (f : Option Func). change_scope_of f (rd.func_place reader u.name) u) is.func_is
    ∙ ap (λ (p : Option ℕ). known_scope is.func p u) is.place_is in
    let shape = or_parts (not (r.same_place reader.last_func (rd.func_place reader u.name))) (lines.is_moved change) right.shaped in
    let below : reader.last_func ≡ Some is.place = same_last reader.last_func is.place (ap (r.same_place reader.last_func) (sym is.place_is)
    ∙ not-false (r.same_place reader.last_func (rd.func_place reader u.name)) shape.0) in
    let last : suc is.place ≡ length reader.funcs = kept.last is.place below in
    let new = new_update reader scope u kept is scope_is last tokens is_small written right in
    let apart = new_reductions reader scope u kept is scope_is last tokens short right in
    let limits = none_of_four (r.is_full reader u.name) _ _ _ right.within in
    let few : nat_le 4 (length is.func.updates) ≡ false = ap r.is_full_of (sym is.func_is) ∙ limits.0 in
    let whole : IsFunc reader.inputs (with_update reader.funcs update) is.place (updated is.func update) = updates_of reader is.func is.place update
    (kept.funcs is.place is.func is.found) few new apart in
    record {
      few_inputs = kept.few_inputs;
      few_funcs = rw (length-update reader.funcs update) kept.few_funcs;
      inputs = kept.inputs;
      funcs = λ place func found. elim (get-update reader.funcs update place func found) [
        | inl before ↦ func_grows reader.inputs reader.funcs reader.inputs (with_update reader.funcs update) (updates_grow reader.inputs reader.funcs update)
            place func (kept.funcs place func before.1)
        | inr at ↦
            let same = same_func reader is.place place is.func at.0 last at.1 is.found at.2 in
            subst (λ (f : Func). IsFunc reader.inputs (with_update reader.funcs update) place f) (ap (λ (f : Func). updated f update) same.1 ∙ at.3)
            (subst (λ (p : ℕ). IsFunc reader.inputs (with_update reader.funcs update) p (updated is.func update)) same.0 whole)
      ];
      short_names = kept.short_names;
      names = λ name s found. source-update reader.inputs reader.funcs update s (kept.names name s found);
      last = λ place at. kept.last place at ∙ sym (length-update reader.funcs update);
      output = λ o at. absurd (no_output reader.output o right.first at);
    }
