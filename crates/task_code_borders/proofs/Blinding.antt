-- What names no variable but those of stages comes to the same wherever others stand.
use Rattle.std.proofs.Common.{◌≡◌, ℕ, ◌+◌, ◌*◌, ◌%◌, ◌^◌, List, [], ◌∷◌, Bool, true, false, refl, ap, ◌∙◌, sym, subst}
use Rattle.std.specs.Prelude.{if◌then◌else◌}
use Rattle.std.proofs.lemmas.Bool.{true≢false}
use Rattle.halide_pipeline.specs.declared.expressions.Operation.{Operation}
use Rattle.halide_pipeline.specs.declared.expressions.Source.{Source}
use Rattle.halide_pipeline.specs.Points.{Seen}
use Rattle.halide_pipeline.specs.Pixel.{Reads}
use Rattle.loop_ir.specs.declared.expressions.Term.{Term}
use Rattle.loop_ir.specs.declared.expressions.Expr.{Expr}
use Rattle.loop_ir.specs.declared.expressions.Expr.TheOpen as layer
use Rattle.loop_ir.specs.declared.expressions.Expr.TheVariants as e
use Rattle.loop_ir.specs.declared.expressions.Linear.{Linear}
use Rattle.loop_ir.specs.Counters.{Values}
use Rattle.loop_ir.specs.Expressions.{value, loads, linear_value, seen, seen_at, sum_of}
use Rattle.loop_ir.proofs.Folds.{at_number, at_linear, at_binary, at_divide, at_remainder, at_select, at_load}
use Rattle.loop_ir.proofs.Loads.{values_are_seen}
use Rattle.task_code_borders.specs.Blind.{IsBlind}
use Rattle.task_code_borders.specs.Borders.{has_border, is_border, of_stages}

-- ---- sums

sum-blind : (values : Values) (terms : List Term) → has_border terms ≡ false → sum_of values terms ≡ sum_of (of_stages values) terms
sum-blind values [] none = refl
sum-blind values (first ∷ others) none = by-test (is_border first.counter) refl none (λ h. sum-blind values others h)
  where
    by-test : (t : Bool) → is_border first.counter ≡ t → (if t then true else has_border others) ≡ false
        → (has_border others ≡ false → sum_of values others ≡ sum_of (of_stages values) others)
        → values first.counter * first.stride + sum_of values others ≡ of_stages values first.counter * first.stride + sum_of (of_stages values) others
    by-test true is h rest = absurd (true≢false h)
    by-test false is h rest =
        ap (λ n. values first.counter * first.stride + n) (rest h)
        ∙ ap (λ b. (if b then 0 else values first.counter) * first.stride + sum_of (of_stages values) others) (sym is)

linear-blind : (values : Values) (new_sum : Linear) → has_border new_sum.terms ≡ false → linear_value values new_sum ≡ linear_value (of_stages values) new_sum
unfolding linear_value
linear-blind values new_sum none = ap (λ n. (new_sum.number + n) % 2 ^ 32) (sum-blind values new_sum.terms none)

-- ---- expressions

blind-as : (expression x : Expr) → expression ≡ x → IsBlind x → IsBlind expression
blind-as expression x is same = subst IsBlind (sym is) same

module _ (reads : Reads) (values : Values) where
  abbrev there : Expr → Seen
  there expression = seen reads values expression

  abbrev here : Expr → Seen
  here expression = seen reads (of_stages values) expression

  sees-number : (n : ℕ) → there (e.Number n) ≡ here (e.Number n)
  unfolding seen
  sees-number n = at_number Seen (seen_at reads values) n ∙ sym (at_number Seen (seen_at reads (of_stages values)) n)

  sees-linear : (sum : Linear) → has_border sum.terms ≡ false → there (e.Linear sum) ≡ here (e.Linear sum)
  unfolding seen
  sees-linear sum none =
      at_linear Seen (seen_at reads values) sum
      ∙ ap (λ (v : ℕ). record { value = v; points = [] }) (linear-blind values sum none)
      ∙ sym (at_linear Seen (seen_at reads (of_stages values)) sum)

  sees-binary : (o : Operation) (a b : Expr) → there a ≡ here a → there b ≡ here b → there (e.Binary o a b) ≡ here (e.Binary o a b)
  unfolding seen
  sees-binary o a b one two =
      at_binary Seen (seen_at reads values) o a b
      ∙ ap (λ s. seen_at reads values (layer.Binary o s (there b))) one ∙ ap (λ s. seen_at reads values (layer.Binary o (here a) s)) two
      ∙ sym (at_binary Seen (seen_at reads (of_stages values)) o a b)

  sees-divide : (a : Expr) (c : ℕ) → there a ≡ here a → there (e.Divide a c) ≡ here (e.Divide a c)
  unfolding seen
  sees-divide a c one =
      at_divide Seen (seen_at reads values) a c ∙ ap (λ s. seen_at reads values (layer.Divide s c)) one
      ∙ sym (at_divide Seen (seen_at reads (of_stages values)) a c)

  sees-remainder : (a : Expr) (c : ℕ) → there a ≡ here a → there (e.Remainder a c) ≡ here (e.Remainder a c)
  unfolding seen
  sees-remainder a c one =
      at_remainder Seen (seen_at reads values) a c ∙ ap (λ s. seen_at reads values (layer.Remainder s c)) one
      ∙ sym (at_remainder Seen (seen_at reads (of_stages values)) a c)

  sees-select : (c a b : Expr) → there c ≡ here c → there a ≡ here a → there b ≡ here b → there (e.Select c a b) ≡ here (e.Select c a b)
  unfolding seen
  sees-select c a b one two three =
      at_select Seen (seen_at reads values) c a b
      ∙ ap (λ s. seen_at reads values (layer.Select s (there a) (there b))) one
      ∙ ap (λ s. seen_at reads values (layer.Select (here c) s (there b))) two
      ∙ ap (λ s. seen_at reads values (layer.Select (here c) (here a) s)) three
      ∙ sym (at_select Seen (seen_at reads (of_stages values)) c a b)

  sees-load : (source : Source) (x y : Expr) → there x ≡ here x → there y ≡ here y → there (e.Load source x y) ≡ here (e.Load source x y)
  unfolding seen
  sees-load source x y one two =
      at_load Seen (seen_at reads values) source x y
      ∙ ap (λ s. seen_at reads values (layer.Load source s (there y))) one ∙ ap (λ s. seen_at reads values (layer.Load source (here x) s)) two
      ∙ sym (at_load Seen (seen_at reads (of_stages values)) source x y)

  pub value_blind : (expression : Expr) → IsBlind expression → value reads values expression ≡ value reads
      (of_stages values) expression
  value_blind expression is =
      sym (values_are_seen reads values expression) ∙ ap (λ (s : Seen). s.value) (is.sees reads values) ∙ values_are_seen reads (of_stages values) expression

  pub loads_blind : (expression : Expr) → IsBlind expression → loads reads values expression ≡ loads reads
      (of_stages values) expression
  loads_blind expression is = ap (λ (s : Seen). s.points) (is.sees reads values)

pub blind-number : (expression : Expr) (n : ℕ) → expression ≡ e.Number n → IsBlind expression
blind-number expression n is = blind-as expression (e.Number n) is
    (record { sees = λ reads values. sees-number reads values n })

pub blind-linear : (expression : Expr) (sum : Linear) → expression ≡ e.Linear sum → has_border sum.terms ≡ false
    → IsBlind expression
blind-linear expression sum is none = blind-as expression (e.Linear sum) is (record { sees = λ reads values. sees-linear reads values sum none })

pub blind-binary : (expression : Expr) (o : Operation) (a b x y : Expr) → expression ≡ e.Binary o a b → x ≡ a → y ≡ b → IsBlind x → IsBlind y → IsBlind expression
blind-binary expression o a b x y is ex ey one two =
    blind-as expression (e.Binary o x y) (is ∙ ap (λ z. e.Binary o z b) (sym ex) ∙ ap (e.Binary o x) (sym ey))
    (record { sees = λ reads values. sees-binary reads values o x y (one.sees reads values) (two.sees reads values) })

pub blind-divide : (expression a x : Expr) (c : ℕ) → expression ≡ e.Divide a c → x ≡ a → IsBlind x → IsBlind expression
blind-divide expression a x c is ex one =
    blind-as expression (e.Divide x c) (is ∙ ap (λ z. e.Divide z c) (sym ex)) (record { sees = λ reads values. sees-divide reads values x c (one.sees reads values) })

pub blind-remainder : (expression a x : Expr) (c : ℕ) → expression ≡ e.Remainder a c → x ≡ a → IsBlind x
    → IsBlind expression
blind-remainder expression a x c is ex one =
    blind-as expression (e.Remainder x c) (is ∙ ap (λ z. e.Remainder z c) (sym ex))
    (record { sees = λ reads values. sees-remainder reads values x c (one.sees reads values) })

pub blind-select : (expression c a b x y z : Expr) → expression ≡ e.Select c a b → x ≡ c → y ≡ a → z ≡ b → IsBlind x → IsBlind y → IsBlind z → IsBlind expression
blind-select expression c a b x y z is ex ey ez one two three =
    blind-as expression (e.Select x y z) (is ∙ ap (λ t. e.Select t a b) (sym ex) ∙ ap (λ t. e.Select x t b) (sym ey) ∙ ap (e.Select x y) (sym ez))
    (record { sees = λ reads values. sees-select reads values x y z (one.sees reads values) (two.sees reads values) (three.sees reads values) })

pub blind-load : (expression : Expr) (source : Source) (a b x y : Expr) → expression ≡ e.Load source a b → x ≡ a → y ≡ b → IsBlind x → IsBlind y → IsBlind expression
blind-load expression source a b x y is ex ey one two =
    blind-as expression (e.Load source x y) (is ∙ ap (λ z. e.Load source z b) (sym ex) ∙ ap (e.Load source x) (sym ey))
    (record { sees = λ reads values. sees-load reads values source x y (one.sees reads values) (two.sees reads values) })
