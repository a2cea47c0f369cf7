-- Expressions whose parts come to the same do so.
use Rattle.std.proofs.Common.{◌≡◌, ℕ, ◌∷◌, ◌++◌, [], refl, ap, ◌∙◌, sym, subst}
use Rattle.std.specs.Prelude.{◌==◌, if◌then◌else◌}
use Rattle.halide_pipeline.specs.declared.expressions.Operation.{Operation}
use Rattle.halide_pipeline.specs.declared.expressions.Source.{Source}
use Rattle.halide_pipeline.specs.Pixel.{Reads}
use Rattle.halide_pipeline.specs.Points.{Point, Seen}
use Rattle.halide_pipeline.specs.Words as word
use Rattle.loop_ir.specs.declared.expressions.Expr.{Expr}
use Rattle.loop_ir.specs.declared.expressions.Expr.TheVariants as e
use Rattle.loop_ir.specs.declared.expressions.Linear.{Linear}
use Rattle.loop_ir.specs.declared.statements.Store.{Store}
use Rattle.loop_ir.specs.Counters.{Values}
use Rattle.loop_ir.specs.Expressions.{linear_value, value, loads, seen, seen_at}
use Rattle.loop_ir.proofs.Folds.{at_number, at_linear}
use Rattle.task_code_values.proofs.Evaluating.{value_number, value_linear, value_binary, value_divide, value_remainder, value_select, value_load}
use Rattle.task_code_values.proofs.Evaluating.{loads_binary, loads_divide, loads_remainder, loads_select, loads_load}
use Rattle.task_code_names.specs.Alike.{IsAlike, IsAlikeStore}

abbrev point : Source → ℕ → ℕ → Point
point source x y = record { source = source; x = x; y = y }

pub loads_number : (reads : Reads) (values : Values) (n : ℕ) → loads reads values (e.Number n) ≡ []
unfolding seen
loads_number reads values n = ap (λ (s : Seen). s.points) (at_number Seen (seen_at reads values) n)

pub loads_linear : (reads : Reads) (values : Values) (sum : Linear) → loads reads values (e.Linear sum) ≡ []
unfolding seen
loads_linear reads values sum = ap (λ (s : Seen). s.points) (at_linear Seen (seen_at reads values) sum)

module _ (is_so : Values → Type 0) where
  pub alike-as : (expression x made : Expr) → expression ≡ x → IsAlike is_so x made → IsAlike is_so expression made
  alike-as expression x made is same = subst (λ y. IsAlike is_so y made) (sym is) same

  pub alike-same : (expression made : Expr) → made ≡ expression → IsAlike is_so expression made
  alike-same expression made is = subst (IsAlike is_so expression) (sym is) (record { value_is = λ reads values are. refl; loads_are = λ reads values are. refl })

  pub alike-number : (expression : Expr) (n : ℕ) → expression ≡ e.Number n → IsAlike is_so expression (e.Number n)
  alike-number expression n is = alike-as expression (e.Number n) (e.Number n) is (record { value_is = λ reads values are. refl; loads_are = λ reads values are. refl })

  pub alike-linear : (expression : Expr) (sum made : Linear) → expression ≡ e.Linear sum
      → ((values : Values) → is_so values → linear_value values made ≡ linear_value values sum) → IsAlike is_so expression (e.Linear made)
  alike-linear expression sum made is same = alike-as expression (e.Linear sum) (e.Linear made) is (record {
    value_is = λ reads values are. value_linear reads values made ∙ same values are ∙ sym (value_linear reads values sum);
    loads_are = λ reads values are. loads_linear reads values made ∙ sym (loads_linear reads values sum);
  })

  pub alike-binary : (expression : Expr) (o : Operation) (a b x y p q : Expr) → expression ≡ e.Binary o a b → x ≡ a → y ≡ b → IsAlike is_so x p → IsAlike is_so y q
      → IsAlike is_so expression (e.Binary o p q)
  alike-binary expression o a b x y p q is ex ey one two = alike-as expression (e.Binary o x y) (e.Binary o p q) (is ∙ ap (λ z. e.Binary o z b) (sym ex)
      ∙ ap (e.Binary o x) (sym ey)) (record {
        value_is = λ reads values are. value_binary reads values o p q
            ∙ ap (λ z. word.applied o z (value reads values q)) (one.value_is reads values are)
            ∙ ap (word.applied o (value reads values x)) (two.value_is reads values are) ∙ sym (value_binary reads values o x y);
        loads_are = λ reads values are. loads_binary reads values o p q
            ∙ ap (λ z. z ++ loads reads values q) (one.loads_are reads values are)
            ∙ ap (λ z. loads reads values x ++ z) (two.loads_are reads values are) ∙ sym (loads_binary reads values o x y);
      })

  pub alike-divide : (expression a x p : Expr) (c : ℕ) → expression ≡ e.Divide a c → x ≡ a → IsAlike is_so x p → IsAlike is_so expression (e.Divide p c)
  alike-divide expression a x p c is ex one = alike-as expression (e.Divide x c) (e.Divide p c) (is ∙ ap (λ z. e.Divide z c) (sym ex)) (record {
    value_is = λ reads values are. value_divide reads values p c ∙ ap (λ z. word.divide z c) (one.value_is reads values are)
        ∙ sym (value_divide reads values x c);
    loads_are = λ reads values are. loads_divide reads values p c ∙ one.loads_are reads values are ∙ sym (loads_divide reads values x c);
  })

  pub alike-remainder : (expression a x p : Expr) (c : ℕ) → expression ≡ e.Remainder a c → x ≡ a → IsAlike is_so x p → IsAlike is_so expression (e.Remainder p c)
  alike-remainder expression a x p c is ex one = alike-as expression (e.Remainder x c) (e.Remainder p c) (is ∙ ap (λ z. e.Remainder z c) (sym ex)) (record {
    value_is = λ reads values are. value_remainder reads values p c ∙ ap (λ z. word.remainder z c) (one.value_is reads values are)
        ∙ sym (value_remainder reads values x c);
    loads_are = λ reads values are. loads_remainder reads values p c ∙ one.loads_are reads values are ∙ sym (loads_remainder reads values x c);
  })

  pub alike-select : (expression c a b x y z p q r : Expr) → expression ≡ e.Select c a b → x ≡ c → y ≡ a → z ≡ b → IsAlike is_so x p → IsAlike is_so y q
      → IsAlike is_so z r → IsAlike is_so expression (e.Select p q r)
  alike-select expression c a b x y z p q r is ex ey ez one two three = alike-as expression (e.Select x y z)
      (e.Select p q r)
      (is ∙ ap (λ t. e.Select t a b) (sym ex) ∙ ap (λ t. e.Select x t b) (sym ey) ∙ ap (e.Select x y) (sym ez)) (record {
        value_is = λ reads values are. value_select reads values p q r
            ∙ ap (λ t. if t == 0 then value reads values r else value reads values q) (one.value_is reads values are)
            ∙ ap (λ t. if value reads values x == 0 then value reads values r else t) (two.value_is reads values are)
            ∙ ap (λ t. if value reads values x == 0 then t else value reads values y) (three.value_is reads values are)
            ∙ sym (value_select reads values x y z);
        loads_are = λ reads values are. loads_select reads values p q r
            ∙ ap (λ t. t ++ (loads reads values q ++ loads reads values r)) (one.loads_are reads values are)
            ∙ ap (λ t. loads reads values x ++ (t ++ loads reads values r)) (two.loads_are reads values are)
            ∙ ap (λ t. loads reads values x ++ (loads reads values y ++ t)) (three.loads_are reads values are)
            ∙ sym (loads_select reads values x y z);
      })

  pub alike-load : (expression : Expr) (source : Source) (a b x y p q : Expr) → expression ≡ e.Load source a b → x ≡ a → y ≡ b → IsAlike is_so x p
      → IsAlike is_so y q → IsAlike is_so expression (e.Load source p q)
  alike-load expression source a b x y p q is ex ey one two = alike-as expression (e.Load source x y)
      (e.Load source p q)
      (is ∙ ap (λ z. e.Load source z b) (sym ex) ∙ ap (e.Load source x) (sym ey)) (record {
        value_is = λ reads values are. value_load reads values source p q
            ∙ ap (λ z. reads source z (value reads values q)) (one.value_is reads values are)
            ∙ ap (reads source (value reads values x)) (two.value_is reads values are) ∙ sym (value_load reads values source x y);
        loads_are = λ reads values are. loads_load reads values source p q
            ∙ ap (λ z. (z ++ loads reads values q) ++ (point source (value reads values p) (value reads values q) ∷ [])) (one.loads_are reads values are)
            ∙ ap (λ z. (loads reads values x ++ z) ++ (point source (value reads values p) (value reads values q) ∷ [])) (two.loads_are reads values are)
            ∙ ap (λ z. (loads reads values x ++ loads reads values y) ++ (point source z (value reads values q) ∷ [])) (one.value_is reads values are)
            ∙ ap (λ z. (loads reads values x ++ loads reads values y) ++ (point source (value reads values x) z ∷ [])) (two.value_is reads values are)
            ∙ sym (loads_load reads values source x y);
      })

-- ---- the same

pub store-same : (is_so : Values → Type 0) (new_store : Store) → IsAlikeStore is_so new_store new_store
store-same is_so new_store = record {
  func_is = refl;
  column = alike-same is_so new_store.x new_store.x refl;
  row = alike-same is_so new_store.y new_store.y refl;
  pixel = alike-same is_so new_store.value new_store.value refl;
}

-- ---- one after the other

alike-then : (is_so more_so : Values → Type 0) (a b c : Expr) → IsAlike is_so a b → IsAlike more_so b c → IsAlike (λ values. is_so values × more_so values) a c
alike-then is_so more_so a b c one two = record {
  value_is = λ reads values are. two.value_is reads values are.1 ∙ one.value_is reads values are.0;
  loads_are = λ reads values are. two.loads_are reads values are.1 ∙ one.loads_are reads values are.0;
}

pub store-then : (is_so more_so : Values → Type 0) (a b c : Store) → IsAlikeStore is_so a b → IsAlikeStore more_so b c
    → IsAlikeStore (λ values. is_so values × more_so values) a c
store-then is_so more_so a b c one two = record {
  func_is = two.func_is ∙ one.func_is;
  column = alike-then is_so more_so a.x b.x c.x one.column two.column;
  row = alike-then is_so more_so a.y b.y c.y one.row two.row;
  pixel = alike-then is_so more_so a.value b.value c.value one.pixel two.pixel;
}
