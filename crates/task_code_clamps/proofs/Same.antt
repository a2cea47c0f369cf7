-- Expressions without clamps that cut nothing off come to the same.
use Rattle.std.proofs.Common.{◌≡◌, ℕ, List, [], ◌∷◌, ◌++◌, refl, ap, ◌∙◌, sym, subst, ◌^◌, ◌<◌, Bool, true, false, arith}
use Rattle.std.specs.Prelude.{◌==◌, ◌&&◌, if◌then◌else◌}
use Rattle.std.proofs.lemmas.Bool.{and_parts, true≢false}
use Rattle.std.proofs.lemmas.List.{append-nil}
use Rattle.halide_pipeline.specs.declared.expressions.Operation.{Operation}
use Rattle.halide_pipeline.specs.declared.expressions.Source.{Source}
use Rattle.halide_pipeline.specs.Pixel.{Reads}
use Rattle.halide_pipeline.specs.Points.{Point}
use Rattle.halide_pipeline.specs.Words as word
use Rattle.halide_pipeline.proofs.Seeing.{all_parts}
use Rattle.loop_ir.specs.declared.expressions.Expr.{Expr}
use Rattle.loop_ir.specs.declared.expressions.Expr.TheVariants as e
use Rattle.loop_ir.specs.declared.expressions.Linear.{Linear}
use Rattle.loop_ir.specs.Counters.{Values}
use Rattle.loop_ir.specs.Expressions.{linear_value, value, loads}
use Rattle.task_code_scalar.specs.declared.layouts.Places.{Places}
use Rattle.task_code_loops.specs.declared.bounds.Bound.{Bound}
use Rattle.task_code_loops.specs.Bounds.{AreBelow}
use Rattle.task_code_values.proofs.Evaluating.{value_number, value_linear, value_binary, value_divide, value_remainder, value_select, value_load}
use Rattle.task_code_values.proofs.Evaluating.{loads_binary, loads_divide, loads_remainder, loads_select, loads_load}
use Rattle.task_code_clamps.specs.declared.clamps.Ranged.{Ranged}
use Rattle.task_code_clamps.specs.declared.ranges.LevelRange.{LevelRange}
use Rattle.task_code_clamps.specs.Clamps.{AreBytesAt, IsSame, IsRanged}
use Rattle.task_code_clamps.specs.Ranges.{IsByte, LiesIn}
use Rattle.task_code_clamps.specs.Steps.{IsTested}
use Rattle.task_code_clamps.proofs.Lying.{sum-word}

module _ (places : Places) (bounds : List Bound) where
  -- ---- leaves

  pub same-itself : (new_expression made : Expr) → new_expression ≡ made → IsSame places bounds new_expression made
  same-itself new_expression made is = record {
    value_is = λ reads values below bytes. ap (λ x. value reads values x) (sym is);
    loads_are = λ reads values below bytes. ap (λ x. loads reads values x) (sym is);
  }

  pub ranged-number : (new_expression : Expr) (n : ℕ) (range : LevelRange) → new_expression ≡ e.Number n → n < 2 ^ 32
      → LiesIn range n
      → IsRanged places bounds new_expression (record { e = e.Number n; range = range; is_word = true })
  ranged-number new_expression n range is small l = record {
    same = same-itself new_expression (e.Number n) is;
    lies = λ reads values below bytes. subst (λ k. LiesIn range k) (sym (ap (λ x. value reads values x) is ∙ value_number reads values n)) l;
    word = λ reads values below bytes w. subst (λ k. k < 2 ^ 32) (sym (ap (λ x. value reads values x) is ∙ value_number reads values n)) small;
  }

  pub ranged-linear : (new_expression : Expr) (sum made : Linear) (range : LevelRange)
      → new_expression ≡ e.Linear sum → made ≡ sum
      → ((values : Values) → AreBelow bounds values → LiesIn range (linear_value values sum))
      → IsRanged places bounds new_expression (record { e = e.Linear made; range = range; is_word = true })
  ranged-linear new_expression sum made range is same l = record {
    same = same-itself new_expression (e.Linear made) (is ∙ ap e.Linear (sym same));
    lies = λ reads values below bytes.
        subst (λ k. LiesIn range k) (sym (ap (λ x. value reads values x) is ∙ value_linear reads values sum)) (l values below);
    word = λ reads values below bytes w.
        subst (λ k. k < 2 ^ 32) (sym (ap (λ x. value reads values x) is ∙ value_linear reads values sum)) (sum-word values sum);
  }

  -- ---- operations

  module _ (o : Operation) (x y : Expr) (a b : Ranged) (rx : IsRanged places bounds x a) (ry : IsRanged places bounds y b) (reads : Reads) (values : Values)
      (below : AreBelow bounds values) (bytes : AreBytesAt places reads (loads reads values (e.Binary o x y))) where
    parts : AreBytesAt places reads (loads reads values x) × AreBytesAt places reads (loads reads values y)
    parts =
        all_parts (λ (point : Point). IsByte places point.source (reads point.source point.x point.y)) (loads reads values x) (loads reads values y)
        (subst (λ l. AreBytesAt places reads l) (loads_binary reads values o x y) bytes)

    abbrev vx : ℕ
    vx = value reads values x

    abbrev vy : ℕ
    vy = value reads values y

    lies-x : LiesIn a.range vx
    lies-x = rx.lies reads values below parts.0

    lies-y : LiesIn b.range vy
    lies-y = ry.lies reads values below parts.1

    words-both : (a.is_word && b.is_word) ≡ true → (vx < 2 ^ 32) × (vy < 2 ^ 32)
    words-both t =
        let k = and_parts a.is_word b.is_word t in
        (rx.word reads values below parts.0 k.0, ry.word reads values below parts.1 k.1)

    first-value : ((v w : ℕ) → LiesIn a.range v → LiesIn b.range w → ((a.is_word && b.is_word) ≡ true → (v < 2 ^ 32) × (w < 2 ^ 32)) → word.applied o v w ≡ v)
        → value reads values (e.Binary o x y) ≡ vx
    first-value is = value_binary reads values o x y ∙ is vx vy lies-x lies-y words-both

    second-value : ((v w : ℕ) → LiesIn a.range v → LiesIn b.range w → word.applied o v w ≡ w) → value reads values (e.Binary o x y) ≡ vy
    second-value is = value_binary reads values o x y ∙ is vx vy lies-x lies-y

    first-loads : loads reads values b.e ≡ [] → loads reads values (e.Binary o x y) ≡ loads reads values x
    first-loads none =
        loads_binary reads values o x y ∙ ap (λ l. loads reads values x ++ l) (sym (ry.same.loads_are reads values below parts.1) ∙ none)
        ∙ append-nil (loads reads values x)

    second-loads : loads reads values a.e ≡ [] → loads reads values (e.Binary o x y) ≡ loads reads values y
    second-loads none =
        loads_binary reads values o x y ∙ ap (λ l. l ++ loads reads values y) (sym (rx.same.loads_are reads values below parts.0) ∙ none)

    both-value : value reads values (e.Binary o a.e b.e) ≡ value reads values (e.Binary o x y)
    both-value =
        value_binary reads values o a.e b.e ∙ ap (λ n. word.applied o n (value reads values b.e)) (rx.same.value_is reads values below parts.0)
        ∙ ap (λ n. word.applied o vx n) (ry.same.value_is reads values below parts.1) ∙ sym (value_binary reads values o x y)

    both-loads : loads reads values (e.Binary o a.e b.e) ≡ loads reads values (e.Binary o x y)
    both-loads =
        loads_binary reads values o a.e b.e ∙ ap (λ l. l ++ loads reads values b.e) (rx.same.loads_are reads values below parts.0)
        ∙ ap (λ l. loads reads values x ++ l) (ry.same.loads_are reads values below parts.1) ∙ sym (loads_binary reads values o x y)

  module _ (o : Operation) (x y : Expr) (a b : Ranged) (rx : IsRanged places bounds x a) (ry : IsRanged places bounds y b) where
    pub taken-first : ((v w : ℕ) → LiesIn a.range v → LiesIn b.range w → ((a.is_word && b.is_word) ≡ true → (v < 2 ^ 32) × (w < 2 ^ 32))
        → word.applied o v w ≡ v)
        → ((reads : Reads) (values : Values) → loads reads values b.e ≡ []) → IsRanged places bounds (e.Binary o x y) a
    taken-first is leaf = record {
      same = record {
        value_is = λ reads values below bytes.
            rx.same.value_is reads values below (parts o x y a b rx ry reads values below bytes).0
            ∙ sym (first-value o x y a b rx ry reads values below bytes is);
        loads_are = λ reads values below bytes.
            rx.same.loads_are reads values below (parts o x y a b rx ry reads values below bytes).0
            ∙ sym (first-loads o x y a b rx ry reads values below bytes (leaf reads values));
      };
      lies = λ reads values below bytes.
          subst (λ n. LiesIn a.range n) (sym (first-value o x y a b rx ry reads values below bytes is)) (lies-x o x y a b rx ry reads values below bytes);
      word = λ reads values below bytes w.
          subst (λ n. n < 2 ^ 32) (sym (first-value o x y a b rx ry reads values below bytes is))
          (rx.word reads values below (parts o x y a b rx ry reads values below bytes).0 w);
    }

    pub taken-second : ((v w : ℕ) → LiesIn a.range v → LiesIn b.range w → word.applied o v w ≡ w)
        → ((reads : Reads) (values : Values) → loads reads values a.e ≡ []) → IsRanged places bounds (e.Binary o x y) b
    taken-second is leaf = record {
      same = record {
        value_is = λ reads values below bytes.
            ry.same.value_is reads values below (parts o x y a b rx ry reads values below bytes).1
            ∙ sym (second-value o x y a b rx ry reads values below bytes is);
        loads_are = λ reads values below bytes.
            ry.same.loads_are reads values below (parts o x y a b rx ry reads values below bytes).1
            ∙ sym (second-loads o x y a b rx ry reads values below bytes (leaf reads values));
      };
      lies = λ reads values below bytes.
          subst (λ n. LiesIn b.range n) (sym (second-value o x y a b rx ry reads values below bytes is)) (lies-y o x y a b rx ry reads values below bytes);
      word = λ reads values below bytes w.
          subst (λ n. n < 2 ^ 32) (sym (second-value o x y a b rx ry reads values below bytes is))
          (ry.word reads values below (parts o x y a b rx ry reads values below bytes).1 w);
    }

    pub taken-both : (first second : Expr) (range : LevelRange) (is_word is_choice : Bool) → first ≡ a.e → second ≡ b.e
        → ((v w : ℕ) → LiesIn a.range v → LiesIn b.range w → LiesIn range (word.applied o v w))
        → is_word ≡ ((a.is_word && b.is_word) && is_choice)
        → (is_choice ≡ true → (v w : ℕ) → v < 2 ^ 32 → w < 2 ^ 32 → word.applied o v w < 2 ^ 32)
        → IsRanged places bounds (e.Binary o x y) (record { e = e.Binary o first second; range = range; is_word = is_word })
    taken-both first second range is_word is_choice ef es l ew choice =
        subst (λ new_expression. IsRanged places bounds (e.Binary o x y)
        (record { e = new_expression; range = range; is_word = is_word }))
        (sym (ap (λ p. e.Binary o p second) ef ∙ ap (e.Binary o a.e) es)) (record {
          same = record {
            value_is = λ reads values below bytes. both-value o x y a b rx ry reads values below bytes;
            loads_are = λ reads values below bytes. both-loads o x y a b rx ry reads values below bytes;
          };
          lies = λ reads values below bytes.
              subst (λ n. LiesIn range n) (sym (value_binary reads values o x y))
              (l (value reads values x) (value reads values y) (lies-x o x y a b rx ry reads values below bytes) (lies-y o x y a b rx ry reads values below
              bytes));
          word = λ reads values below bytes w.
              let k = and_parts (a.is_word && b.is_word) is_choice (sym ew ∙ w) in
              let both = words-both o x y a b rx ry reads values below bytes k.0 in
              subst (λ n. n < 2 ^ 32) (sym (value_binary reads values o x y)) (choice k.1 (value reads values x) (value reads values y) both.0 both.1);
        })

    -- by an expression that comes to the same as an operation on both
    pub as-both : (p : Expr) (made : Ranged) → ((reads : Reads) (values : Values) → value reads values p ≡ value reads values (e.Binary o a.e b.e))
        → ((reads : Reads) (values : Values) → loads reads values p ≡ loads reads values (e.Binary o a.e b.e)) → IsRanged places bounds p made
        → IsRanged places bounds (e.Binary o x y) made
    as-both p made ev el rp = record {
      same = record {
        value_is = λ reads values below bytes.
            rp.same.value_is reads values below (inner reads values below bytes) ∙ ev reads values ∙ both-value o x y a b rx ry reads values below bytes;
        loads_are = λ reads values below bytes.
            rp.same.loads_are reads values below (inner reads values below bytes) ∙ el reads values ∙ both-loads o x y a b rx ry reads values below bytes;
      };
      lies = λ reads values below bytes.
          subst (λ n. LiesIn made.range n) (ev reads values ∙ both-value o x y a b rx ry reads values below bytes)
          (rp.lies reads values below (inner reads values below bytes));
      word = λ reads values below bytes w.
          subst (λ n. n < 2 ^ 32) (ev reads values ∙ both-value o x y a b rx ry reads values below bytes)
          (rp.word reads values below (inner reads values below bytes) w);
    }
      where
        inner : (reads : Reads) (values : Values) → AreBelow bounds values → AreBytesAt places reads (loads reads values (e.Binary o x y))
            → AreBytesAt places reads (loads reads values p)
        inner reads values below bytes =
            subst (λ l. AreBytesAt places reads l) (sym (el reads values ∙ both-loads o x y a b rx ry reads values below bytes)) bytes

    -- by a test
    pub by-test : (made : Expr) (range : LevelRange) (is_word is_choice : Bool) → IsTested o a b made
        → ((v w : ℕ) → LiesIn a.range v → LiesIn b.range w → LiesIn range (word.applied o v w))
        → is_word ≡ ((a.is_word && b.is_word) && is_choice)
        → (is_choice ≡ true → (v w : ℕ) → v < 2 ^ 32 → w < 2 ^ 32 → word.applied o v w < 2 ^ 32)
        → IsRanged places bounds (e.Binary o x y) (record { e = made; range = range; is_word = is_word })
    by-test made range is_word is_choice tested l ew choice =
        let both = taken-both a.e b.e range is_word is_choice refl refl l ew choice in
        record {
          same = record {
            value_is = λ reads values below bytes.
                let p = parts o x y a b rx ry reads values below bytes in
                let first = rx.same.value_is reads values below p.0 in
                tested.value_is reads values (subst (λ n. LiesIn a.range n) (sym first) (lies-x o x y a b rx ry reads values below bytes))
                ∙ sym (value_binary reads values o a.e b.e) ∙ both-value o x y a b rx ry reads values below bytes;
            loads_are = λ reads values below bytes.
                tested.none reads values
                ∙ sym (loads_binary reads values o a.e b.e ∙ ap (λ k. k ++ loads reads values b.e) (tested.first_none reads values) ∙ tested.second_none
                reads values) ∙ both-loads o x y a b rx ry reads values below bytes;
          };
          lies = both.lies;
          word = both.word;
        }

  pub ranged-binary : (new_expression x y gx gy : Expr) (o : Operation) (a b made : Ranged) → new_expression ≡ e.Binary o x y → gx ≡ x → gy ≡ y → IsRanged places bounds gx a
      → IsRanged places bounds gy b
      → ((ps : Places) (bs : List Bound) (p q : Expr) → IsRanged ps bs p a → IsRanged ps bs q b → IsRanged ps bs (e.Binary o p q) made)
      → IsRanged places bounds new_expression made
  ranged-binary new_expression x y gx gy o a b made is ex ey ra rb all =
      subst (λ t. IsRanged places bounds t made) (sym (is ∙ ap (λ t. e.Binary o t y) (sym ex) ∙ ap (e.Binary o gx) (sym ey)))
      (all places bounds gx gy ra rb)

  -- ---- other expressions

  pub ranged-anywhere : (new_expression x : Expr) (made : Ranged) → made.e ≡ x → made.is_word ≡ false
      → IsRanged places bounds new_expression (record { e = x; range = made.range; is_word = false }) → IsRanged places bounds new_expression made
  ranged-anywhere new_expression x made is none all = record {
    same = subst (λ t. IsSame places bounds new_expression t) (sym is) all.same;
    lies = all.lies;
    word = λ reads values below bytes w. absurd (true≢false (sym w ∙ none));
  }

  pub ranged-divide : (new_expression x gx made : Expr) (c : ℕ) (range : LevelRange) → new_expression ≡ e.Divide x c → gx ≡ x → IsSame places bounds gx made
      → ((v : ℕ) → LiesIn range v) → IsRanged places bounds new_expression (record { e = e.Divide made c; range = range; is_word = false })
  ranged-divide new_expression x gx made c range is ex same l =
      subst (λ t. IsRanged places bounds t (record { e = e.Divide made c; range = range; is_word = false })) (sym (is ∙ ap (λ t. e.Divide t c) (sym ex)))
      (record {
        same = record {
          value_is = λ reads values below bytes.
              let inner = subst (λ k. AreBytesAt places reads k) (loads_divide reads values gx c) bytes in
              value_divide reads values made c ∙ ap (λ n. word.divide n c) (same.value_is reads values below inner) ∙ sym (value_divide reads values gx c);
          loads_are = λ reads values below bytes.
              let inner = subst (λ k. AreBytesAt places reads k) (loads_divide reads values gx c) bytes in
              loads_divide reads values made c ∙ same.loads_are reads values below inner ∙ sym (loads_divide reads values gx c);
        };
        lies = λ reads values below bytes. l (value reads values (e.Divide gx c));
        word = λ reads values below bytes w. absurd (true≢false (sym w));
      })

  pub ranged-remainder : (new_expression x gx made : Expr) (c : ℕ) (range : LevelRange) → new_expression ≡ e.Remainder x c → gx ≡ x → IsSame places bounds gx made
      → ((v : ℕ) → LiesIn range v) → IsRanged places bounds new_expression (record { e = e.Remainder made c; range = range; is_word = false })
  ranged-remainder new_expression x gx made c range is ex same l =
      subst (λ t. IsRanged places bounds t (record { e = e.Remainder made c; range = range; is_word = false })) (sym (is ∙ ap (λ t. e.Remainder t c) (sym ex)))
      (record {
        same = record {
          value_is = λ reads values below bytes.
              let inner = subst (λ k. AreBytesAt places reads k) (loads_remainder reads values gx c) bytes in
              value_remainder reads values made c ∙ ap (λ n. word.remainder n c) (same.value_is reads values below inner)
              ∙ sym (value_remainder reads values gx c);
          loads_are = λ reads values below bytes.
              let inner = subst (λ k. AreBytesAt places reads k) (loads_remainder reads values gx c) bytes in
              loads_remainder reads values made c ∙ same.loads_are reads values below inner ∙ sym (loads_remainder reads values gx c);
        };
        lies = λ reads values below bytes. l (value reads values (e.Remainder gx c));
        word = λ reads values below bytes w. absurd (true≢false (sym w));
      })

  abbrev is-byte : Reads → Point → Type 0
  is-byte reads point = IsByte places point.source (reads point.source point.x point.y)

  module _ (c x y mc mx my : Expr) (sc : IsSame places bounds c mc) (sx : IsSame places bounds x mx) (sy : IsSame places bounds y my) (reads : Reads)
      (values : Values) (below : AreBelow bounds values) (bytes : AreBytesAt places reads (loads reads values (e.Select c x y))) where
    abbrev lc : List Point
    lc = loads reads values c

    abbrev lx : List Point
    lx = loads reads values x

    abbrev ly : List Point
    ly = loads reads values y

    three : AreBytesAt places reads lc × (AreBytesAt places reads lx × AreBytesAt places reads ly)
    three =
        let first = all_parts (is-byte reads) lc (lx ++ ly) (subst (λ k. AreBytesAt places reads k) (loads_select reads values c x y) bytes) in
        (first.0, all_parts (is-byte reads) lx ly first.1)

    select-value : value reads values (e.Select mc mx my) ≡ value reads values (e.Select c x y)
    select-value =
        value_select reads values mc mx my
        ∙ ap (λ n. if n == 0 then value reads values my else value reads values mx) (sc.value_is reads values below three.0)
        ∙ ap (λ n. if value reads values c == 0 then value reads values my else n) (sx.value_is reads values below three.1.0)
        ∙ ap (λ n. if value reads values c == 0 then n else value reads values x) (sy.value_is reads values below three.1.1)
        ∙ sym (value_select reads values c x y)

    select-loads : loads reads values (e.Select mc mx my) ≡ loads reads values (e.Select c x y)
    select-loads =
        loads_select reads values mc mx my
        ∙ ap (λ l. l ++ (loads reads values mx ++ loads reads values my)) (sc.loads_are reads values below three.0)
        ∙ ap (λ l. lc ++ (l ++ loads reads values my)) (sx.loads_are reads values below three.1.0)
        ∙ ap (λ l. lc ++ (lx ++ l)) (sy.loads_are reads values below three.1.1) ∙ sym (loads_select reads values c x y)

  pub ranged-select : (new_expression c x y gc gx gy mc mx my : Expr) (range : LevelRange) → new_expression ≡ e.Select c x y → gc ≡ c → gx ≡ x → gy ≡ y
      → IsSame places bounds gc mc → IsSame places bounds gx mx → IsSame places bounds gy my → ((v : ℕ) → LiesIn range v)
      → IsRanged places bounds new_expression (record { e = e.Select mc mx my; range = range; is_word = false })
  ranged-select new_expression c x y gc gx gy mc mx my range is ec ex ey sc sx sy l =
      subst (λ t. IsRanged places bounds t (record { e = e.Select mc mx my; range = range; is_word = false }))
      (sym (is ∙ ap (λ t. e.Select t x y) (sym ec) ∙ ap (λ t. e.Select gc t y) (sym ex) ∙ ap (e.Select gc gx) (sym ey))) (record {
        same = record {
          value_is = λ reads values below bytes. select-value gc gx gy mc mx my sc sx sy reads values below bytes;
          loads_are = λ reads values below bytes. select-loads gc gx gy mc mx my sc sx sy reads values below bytes;
        };
        lies = λ reads values below bytes. l (value reads values (e.Select gc gx gy));
        word = λ reads values below bytes w. absurd (true≢false (sym w));
      })

  module _ (source : Source) (x y mx my : Expr) (sx : IsSame places bounds x mx) (sy : IsSame places bounds y my) (reads : Reads)
      (values : Values) (below : AreBelow bounds values) (bytes : AreBytesAt places reads (loads reads values (e.Load source x y))) where
    abbrev ox : List Point
    ox = loads reads values x

    abbrev oy : List Point
    oy = loads reads values y

    abbrev px : ℕ
    px = value reads values x

    abbrev py : ℕ
    py = value reads values y

    abbrev here : ℕ → ℕ → List Point
    here n k = record { source = source; x = n; y = k } ∷ []

    two : (AreBytesAt places reads ox × AreBytesAt places reads oy) × AreBytesAt places reads (here px py)
    two =
        let first = all_parts (is-byte reads) (ox ++ oy) (here px py) (subst (λ k. AreBytesAt places reads k) (loads_load reads values source x y) bytes) in
        (all_parts (is-byte reads) ox oy first.0, first.1)

    load-value : value reads values (e.Load source mx my) ≡ value reads values (e.Load source x y)
    load-value =
        value_load reads values source mx my ∙ ap (λ n. reads source n (value reads values my)) (sx.value_is reads values below two.0.0)
        ∙ ap (λ n. reads source px n) (sy.value_is reads values below two.0.1) ∙ sym (value_load reads values source x y)

    load-loads : loads reads values (e.Load source mx my) ≡ loads reads values (e.Load source x y)
    load-loads =
        loads_load reads values source mx my
        ∙ ap (λ l. (l ++ loads reads values my) ++ here (value reads values mx) (value reads values my)) (sx.loads_are reads values below two.0.0)
        ∙ ap (λ l. (ox ++ l) ++ here (value reads values mx) (value reads values my)) (sy.loads_are reads values below two.0.1)
        ∙ ap (λ n. (ox ++ oy) ++ here n (value reads values my)) (sx.value_is reads values below two.0.0)
        ∙ ap (λ n. (ox ++ oy) ++ here px n) (sy.value_is reads values below two.0.1) ∙ sym (loads_load reads values source x y)

    load-byte : IsByte places source (value reads values (e.Load source x y))
    load-byte = subst (λ n. IsByte places source n) (sym (value_load reads values source x y)) two.1.0

  pub ranged-load : (new_expression x y gx gy mx my : Expr) (source : Source) (range : LevelRange) (is_word : Bool) → new_expression ≡ e.Load source x y → gx ≡ x → gy ≡ y
      → IsSame places bounds gx mx → IsSame places bounds gy my → ((v : ℕ) → IsByte places source v → LiesIn range v)
      → (is_word ≡ true → (v : ℕ) → IsByte places source v → v < 256)
      → IsRanged places bounds new_expression (record { e = e.Load source mx my; range = range; is_word = is_word })
  ranged-load new_expression x y gx gy mx my source range is_word is ex ey sx sy l small =
      subst (λ t. IsRanged places bounds t (record { e = e.Load source mx my; range = range; is_word = is_word }))
      (sym (is ∙ ap (λ t. e.Load source t y) (sym ex) ∙ ap (e.Load source gx) (sym ey))) (record {
        same = record {
          value_is = λ reads values below bytes. load-value source gx gy mx my sx sy reads values below bytes;
          loads_are = λ reads values below bytes. load-loads source gx gy mx my sx sy reads values below bytes;
        };
        lies = λ reads values below bytes. l (value reads values (e.Load source gx gy)) (load-byte source gx gy mx my sx sy reads values below bytes);
        word = λ reads values below bytes w.
            let b = small w (value reads values (e.Load source gx gy)) (load-byte source gx gy mx my sx sy reads values below bytes) in omega (arith, b);
      })
