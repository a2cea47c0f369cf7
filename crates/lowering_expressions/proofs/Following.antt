-- Expressions of loops follow what is seen of a definition.
use Rattle.std.proofs.Math.Nat.{add-mod-mod}
use Rattle.std.proofs.Common.{◌+◌, ◌-◌, ◌%◌, ◌^◌, arith, ◌≡◌, ℕ, Bool, true, List, [], ◌∷◌, ◌++◌, Option, None, Some, refl, sym, ap, subst, ◌∙◌}
use Rattle.std.specs.Prelude.{cond, ◌==◌}
use Rattle.std.proofs.lemmas.List.{append-nil}
use Rattle.halide_pipeline.specs.declared.expressions.Operation.{Operation}
use Rattle.halide_pipeline.specs.declared.expressions.Source.{Source}
use Rattle.halide_pipeline.specs.declared.expressions.Expr.TheOpen as layer
use Rattle.halide_pipeline.specs.Words as word
use Rattle.halide_pipeline.specs.Pixel.{Reads}
use Rattle.halide_pipeline.specs.Points.{Point, Seen, Hold}
use Rattle.halide_pipeline.proofs.Seeing.{all_parts, all_both}
use Rattle.bounds_inlining.specs.Values.{seeing}
use Rattle.loop_ir.specs.declared.expressions.Expr.{Expr}
use Rattle.loop_ir.specs.declared.expressions.Expr.TheVariants as e
use Rattle.loop_ir.specs.declared.expressions.Linear.{Linear}
use Rattle.loop_ir.specs.Counters.{Values}
use Rattle.loop_ir.specs.Expressions.{value, value_at, linear_value, seen, seen_at, loads}
use Rattle.loop_ir.proofs.Loads.{values_are_seen}
use Rattle.loop_ir.proofs.Folds.{at_number, at_linear, at_binary, at_divide, at_remainder, at_select, at_load}
use Rattle.lowering_expressions.specs.declared.calls.Corner.{Corner}
use Rattle.lowering_expressions.specs.Lowering.{place, placed, from_corner, corner_of, answered_at}
use Rattle.lowering_expressions.specs.inner.Following.{Follows, algebra}

abbrev points_of : Seen → List Point
points_of own_seen = own_seen.points

module _ (corners : List Corner) (values : Values) (reads : Reads) (given : List Point) where
  abbrev F : Expr → Seen → Type 0
  F = Follows corners values reads given

  abbrev Passes : (Point → Bool) → Point → Type 0
  Passes test point = test (place corners values point) ≡ true

  pub number_follows : (n : ℕ) → F (e.Number n) ((algebra corners values reads).level (layer.Number n))
  unfolding seeing value seen
  number_follows n = record {
    same = at_number ℕ (value_at reads values) n;
    holds = λ test g h. subst (Hold test) (sym (ap points_of (at_number Seen (seen_at reads values) n))) tt;
  }

  pub binary_follows : (op : Operation) (a b : Expr) (left right : Seen) → F a left → F b right
      → F (e.Binary op a b) ((algebra corners values reads).level (layer.Binary op left right))
  unfolding seeing value seen
  binary_follows op a b left right fa fb = record {
    same = at_binary ℕ (value_at reads values) op a b
        ∙ ap (λ (n : ℕ). word.applied op n (value reads values b)) fa.same ∙ ap (λ (n : ℕ). word.applied op left.value n) fb.same;
    holds = λ test g h.
        let k = all_parts (Passes test) left.points right.points h in
        subst (Hold test) (sym (ap points_of (at_binary Seen (seen_at reads values) op a b)))
        (all_both (λ (p : Point). test p ≡ true) (loads reads values a) (loads reads values b) (fa.holds test g k.0) (fb.holds test g k.1));
  }

  -- a left side to which a number is added
  pub shifted_follows : (op : Operation) (a b expression : Expr) (left right : Seen) (n : ℕ) → ((x : ℕ) → word.applied op x (value reads values b) ≡ word.add x n)
      → value reads values expression ≡ word.add (value reads values a) n → ((test : Point → Bool) → Hold test (loads reads values a)
      → Hold test (loads reads values expression))
      → F a left → F b right → F expression ((algebra corners values reads).level (layer.Binary op left right))
  unfolding seeing
  shifted_follows op a b expression left right n shift is all fa fb = record {
    same = is ∙ sym (shift (value reads values a))
        ∙ ap (λ (k : ℕ). word.applied op k (value reads values b)) fa.same ∙ ap (λ (k : ℕ). word.applied op left.value k) fb.same;
    holds = λ test g h. let k = all_parts (Passes test) left.points right.points h in all test (fa.holds test g k.0);
  }

  pub divide_follows : (a : Expr) (n : ℕ) (own_seen : Seen) → F a own_seen → F (e.Divide a n) ((algebra corners values reads).level (layer.Divide own_seen n))
  unfolding seeing value seen
  divide_follows a n own_seen fa = record {
    same = at_divide ℕ (value_at reads values) a n ∙ ap (λ (m : ℕ). word.divide m n) fa.same;
    holds = λ test g h. subst (Hold test) (sym (ap points_of (at_divide Seen (seen_at reads values) a n))) (fa.holds test g h);
  }

  pub remainder_follows : (a : Expr) (n : ℕ) (own_seen : Seen) → F a own_seen → F (e.Remainder a n) ((algebra corners values reads).level (layer.Remainder own_seen n))
  unfolding seeing value seen
  remainder_follows a n own_seen fa = record {
    same = at_remainder ℕ (value_at reads values) a n ∙ ap (λ (m : ℕ). word.remainder m n) fa.same;
    holds = λ test g h. subst (Hold test) (sym (ap points_of (at_remainder Seen (seen_at reads values) a n))) (fa.holds test g h);
  }

  pub select_follows : (c a b : Expr) (condition left right : Seen) → F c condition → F a left → F b right
      → F (e.Select c a b) ((algebra corners values reads).level (layer.Select condition left right))
  unfolding seeing value seen
  select_follows c a b condition left right fc fa fb = record {
    same = at_select ℕ (value_at reads values) c a b
        ∙ ap (λ (n : ℕ). cond (n == 0) (value reads values b) (value reads values a)) fc.same
        ∙ ap (λ (n : ℕ). cond (condition.value == 0) (value reads values b) n) fa.same
        ∙ ap (λ (n : ℕ). cond (condition.value == 0) n left.value) fb.same;
    holds = λ test g h.
        let k = all_parts (Passes test) condition.points (left.points ++ right.points) h in
        let m = all_parts (Passes test) left.points right.points k.1 in
        subst (Hold test) (sym (ap points_of (at_select Seen (seen_at reads values) c a b)))
        (all_both (λ (p : Point). test p ≡ true) (loads reads values c) (loads reads values a ++ loads reads values b) (fc.holds test g k.0)
        (all_both (λ (p : Point). test p ≡ true) (loads reads values a) (loads reads values b) (fa.holds test g m.0) (fb.holds test g m.1)));
  }

  -- ---- loads

  same_source : (corner : Option Corner) (x y : ℕ) (s : Source) → (from_corner values corner x y s).source ≡ s
  same_source None x y s = refl
  same_source (Some corner) x y s = refl

  -- at a point that is counted from a corner
  pub load_follows : (s : Source) (corner : Option Corner) → corner ≡ corner_of corners s → (x y : Expr) (left right : Seen)
      → value reads values x ≡ (from_corner values corner left.value right.value s).x
      → value reads values y ≡ (from_corner values corner left.value right.value s).y
      → ((test : Point → Bool) → Hold test given → Hold (λ p. test (place corners values p)) left.points → Hold test (loads reads values x))
      → ((test : Point → Bool) → Hold test given → Hold (λ p. test (place corners values p)) right.points → Hold test (loads reads values y))
      → F (e.Load s x y) ((algebra corners values reads).level (layer.Call2 s left right))
  unfolding seeing value seen placed
  load_follows s corner is x y left right vx vy hx hy =
      let at : Option Corner → Point = λ own_seen. from_corner values own_seen left.value right.value s in
      let own_seen : Point = record { source = s; x = value reads values x; y = value reads values y } in
      let there : own_seen ≡ at (corner_of corners s) =
      ap (λ (n : ℕ). record { source = s; x = n; y = value reads values y }) vx
      ∙ ap (λ (n : ℕ). record { source = s; x = (at corner).x; y = n }) vy
      ∙ ap (λ (f : Source). record { source = f; x = (at corner).x; y = (at corner).y }) (sym (same_source corner left.value right.value s))
      ∙ ap at is in
      let loaded : Point = record { source = s; x = (seen reads values x).value; y = (seen reads values y).value } in
      let seen_there : loaded ≡ own_seen =
      ap (λ (n : ℕ). record { source = s; x = n; y = (seen reads values y).value }) (values_are_seen reads values x)
      ∙ ap (λ (n : ℕ). record { source = s; x = value reads values x; y = n }) (values_are_seen reads values y) in
      record {
        same = at_load ℕ (value_at reads values) s x y ∙ ap (answered_at reads) there;
        holds = λ test g h.
            let k = all_parts (Passes test) (left.points ++ right.points) (record { source = s; x = left.value; y = right.value } ∷ []) h in
            let m = all_parts (Passes test) left.points right.points k.0 in
            subst (Hold test) (sym (ap points_of (at_load Seen (seen_at reads values) s x y)))
            (all_both (λ (p : Point). test p ≡ true) (loads reads values x ++ loads reads values y) (loaded ∷ [])
            (all_both (λ (p : Point). test p ≡ true) (loads reads values x) (loads reads values y) (hx test g m.0) (hy test g m.1))
            (ap test (seen_there ∙ there) ∙ k.1.0, tt));
      }

-- ---- sums

module _ (reads : Reads) (values : Values) where
  pub number_value : (n : ℕ) → value reads values (e.Number n) ≡ n
  unfolding value
  number_value n = at_number ℕ (value_at reads values) n

  pub linear_is : (sum : Linear) → value reads values (e.Linear sum) ≡ linear_value values sum
  unfolding value
  linear_is sum = at_linear ℕ (value_at reads values) sum

  pub binary_value : (op : Operation) (a b : Expr) → value reads values (e.Binary op a b) ≡ word.applied op (value reads values a) (value reads values b)
  unfolding value
  binary_value op a b = at_binary ℕ (value_at reads values) op a b

  pub number_loads : (n : ℕ) → loads reads values (e.Number n) ≡ []
  unfolding seen
  number_loads n = ap points_of (at_number Seen (seen_at reads values) n)

  pub linear_loads : (sum : Linear) → loads reads values (e.Linear sum) ≡ []
  unfolding seen
  linear_loads sum = ap points_of (at_linear Seen (seen_at reads values) sum)

  pub binary_loads : (op : Operation) (a b : Expr) → loads reads values (e.Binary op a b) ≡ loads reads values a ++ loads reads values b
  unfolding seen
  binary_loads op a b = ap points_of (at_binary Seen (seen_at reads values) op a b)

  -- what loads nothing passes
  pub linear_passes : (sum : Linear) (test : Point → Bool) → Hold test (loads reads values (e.Linear sum))
  linear_passes sum test = subst (Hold test) (sym (linear_loads sum)) tt

  -- an operation on an expression and one that loads nothing
  pub left_passes : (op : Operation) (new_expression a b : Expr) → new_expression ≡ e.Binary op a b → loads reads values b ≡ [] → (test : Point → Bool)
      → Hold test (loads reads values a) → Hold test (loads reads values new_expression)
  left_passes op new_expression a b is none test h =
      subst (Hold test) (sym (ap (loads reads values) is ∙ binary_loads op a b ∙ ap (λ (ps : List Point). loads reads values a ++ ps) none
      ∙ append-nil (loads reads values a))) h

pub subtract_is : (x n m : ℕ) → m ≡ word.subtract 0 n → word.subtract x n ≡ word.add x m
unfolding word.subtract word.add
subtract_is x n m is =
    let z : 0 + (2 ^ 32 - n) ≡ 2 ^ 32 - n = omega arith in
    sym (ap (λ (k : ℕ). (x + k) % 2 ^ 32) (is ∙ ap (λ (k : ℕ). k % 2 ^ 32) z) ∙ add-mod-mod x (2 ^ 32 - n) (2 ^ 32))
