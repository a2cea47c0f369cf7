-- A line that is read is the line that is written.
use Rattle.std.proofs.Common.{◌≡◌, ℕ, Bool, true, false, List, [], ◌∷◌, Result, Ok, Err, Option, Some, None, refl, ap, subst, ◌∙◌}
use Rattle.std.specs.Prelude.{codes}
use Rattle.std.specs.Str.{bytes_eq}
use Rattle.std.proofs.lemmas.Slice.Eq.{bytes_eq-Decides}
use Rattle.line_text.specs.Lines.{◌>>=◌}
use Rattle.halide_parser_syntax.specs.declared.faults.ParseFault.{ParseFault}
use Rattle.halide_parser_syntax.specs.declared.tokens.Token.{Token}
use Rattle.halide_parser_syntax.specs.declared.tokens.Token.TheVariants as t
use Rattle.halide_parser_syntax.specs.declared.tokens.SumOperator.TheVariants.{Add, Subtract}
use Rattle.halide_parser_syntax.specs.declared.lines.NamedExtents.{NamedExtents}
use Rattle.halide_parser_syntax.specs.declared.lines.ReductionBounds.{ReductionBounds}
use Rattle.halide_parser_syntax.specs.declared.lines.Change.{Change}
use Rattle.halide_parser_syntax.specs.declared.lines.Definition.{Definition}
use Rattle.halide_parser_syntax.specs.declared.lines.AlgorithmLine.{AlgorithmLine}
use Rattle.halide_parser_syntax.specs.declared.lines.AlgorithmLine.TheVariants as line
use Rattle.halide_parser_syntax.specs.inner.Algebra.{writing}
use Rattle.halide_parser_syntax.specs.Grammar.{Written, spell, IsRight, is_open}
use Rattle.halide_parser_syntax.specs.LineGrammar.{spell_height, spell_extents, spell_kind, spell_sign, spell_bounds, spell_second_bounds, spell_argument}
use Rattle.halide_parser_syntax.specs.LineGrammar.{spell_index, spell_line, IsRightIndex, IsRightLine}
use Rattle.halide_parser_syntax.specs.inner.LineReading as r
use Rattle.halide_parser_syntax.specs.inner.Machine as m
use Rattle.halide_parser_syntax.proofs.Complete.{is_read}
use Rattle.halide_parser_syntax.proofs.Sound.{is_written}

-- ---- what is read is written

bind_ok : {A B : Type 0} (given : Result A ParseFault) (f : A → Result B ParseFault) (y : B) → (given >>= f) ≡ Ok y → (x : A) × (given ≡ Ok x) × (f x ≡ Ok y)
bind_ok (Ok x) f y h = (x, refl, h)
bind_ok (Err e) f y h = cc

ok_inj : {A : Type 0} (x y : A) → ◌≡◌ {A = Result A ParseFault} (Ok x) (Ok y) → x ≡ y
ok_inj x y h = cc

abbrev spell_extents_of : NamedExtents × List Token → List Token
spell_extents_of x = spell_extents x.0 x.1

extents_written : (ts : List Token) (e : NamedExtents) (rest : List Token) → r.extents ts ≡ Ok (e, rest) → ts ≡ spell_extents e rest
unfolding r.extents
extents_written [] e rest h = cc
extents_written (t.Name name ∷ []) e rest h = cc
extents_written (t.Name name ∷ t.Number width ∷ []) e rest h = ap spell_extents_of (ok_inj _ (e, rest) h)
extents_written (t.Name name ∷ t.Number width ∷ t.Number height ∷ ts) e rest h = ap spell_extents_of (ok_inj _ (e, rest) h)
extents_written (t.Name name ∷ t.Number width ∷ x ∷ ts) e rest h = ap spell_extents_of (ok_inj _ (e, rest) h)
extents_written (t.Name name ∷ x ∷ ts) e rest h = cc
extents_written (x ∷ ts) e rest h = cc

by_word : (word : List ℕ) (is : Bool) (is_bytes : Bool) → bytes_eq word (codes "u8") ≡ is → r.kind_by is ≡ Ok is_bytes → t.Name word ∷ [] ≡ spell_kind is_bytes
by_word word true is_bytes same h =
    ap (λ (w : List ℕ). t.Name w ∷ []) ((bytes_eq-Decides word (codes "u8")).0 same) ∙ ap spell_kind (ok_inj true is_bytes h)
by_word word false is_bytes same h = cc

kind_written : (ts : List Token) (is_bytes : Bool) → r.kind ts ≡ Ok is_bytes → ts ≡ spell_kind is_bytes
unfolding r.kind
kind_written [] is_bytes h = ap spell_kind (ok_inj false is_bytes h)
kind_written (t.Name word ∷ []) is_bytes h = by_word word (bytes_eq word (codes "u8")) is_bytes refl h
kind_written (t.Name word ∷ x ∷ ts) is_bytes h = cc
kind_written (x ∷ ts) is_bytes h = cc

abbrev spell_bounds_of : ReductionBounds × List Token → List Token
spell_bounds_of x = spell_bounds x.0 x.1

bounds_from_written : (name : List ℕ) (is_negative : Bool) (ts : List Token) (b : ReductionBounds) (rest : List Token) → r.bounds_from name is_negative ts ≡ Ok (b, rest)
    → t.Name name ∷ spell_sign is_negative ts ≡ spell_bounds b rest
bounds_from_written name is_negative [] b rest h = cc
bounds_from_written name is_negative (t.Number minimum ∷ []) b rest h = cc
bounds_from_written name is_negative (t.Number minimum ∷ t.Number extent ∷ ts) b rest h = ap spell_bounds_of (ok_inj _ (b, rest) h)
bounds_from_written name is_negative (t.Number minimum ∷ x ∷ ts) b rest h = cc
bounds_from_written name is_negative (x ∷ ts) b rest h = cc

bounds_written : (ts : List Token) (b : ReductionBounds) (rest : List Token) → r.bounds ts ≡ Ok (b, rest) → ts ≡ spell_bounds b rest
unfolding r.bounds
bounds_written [] b rest h = cc
bounds_written (t.Name name ∷ []) b rest h = cc
bounds_written (t.Name name ∷ t.Sum Subtract ∷ ts) b rest h = bounds_from_written name true ts b rest h
bounds_written (t.Name name ∷ t.Sum Add ∷ ts) b rest h = bounds_from_written name false (t.Sum Add ∷ ts) b rest h
bounds_written (t.Name name ∷ x ∷ ts) b rest h = bounds_from_written name false (x ∷ ts) b rest h
bounds_written (x ∷ ts) b rest h = cc

left_written : {A : Type 0} (value y : A) (ts : List Token) → r.nothing_left value ts ≡ Ok y → (value ≡ y) × (ts ≡ [])
left_written value y [] h = (ok_inj value y h, refl)
left_written value y (x ∷ ts) h = cc

more_bounds_written : (ts : List Token) (second : Option ReductionBounds) → r.more_bounds ts ≡ Ok second → ts ≡ spell_second_bounds second
unfolding r.more_bounds
more_bounds_written [] second h = ap spell_second_bounds (ok_inj None second h)
more_bounds_written (t.Comma ∷ ts) second h =
    let (x, first, last) = bind_ok (r.bounds ts) _ second h in
    let e = left_written (Some x.0) second x.1 last in
    ap (λ (l : List Token). t.Comma ∷ l) (bounds_written ts x.0 x.1 first ∙ ap (spell_bounds x.0) e.1) ∙ ap spell_second_bounds e.0
more_bounds_written (x ∷ ts) second h = cc

abbrev spell_arguments : (List ℕ × Option (List ℕ)) × List Token → List Token
spell_arguments x = t.Name x.0.0 ∷ spell_argument x.0.1 (t.Close ∷ t.Assign ∷ x.1)

arguments_written : (ts : List Token) (x : (List ℕ × Option (List ℕ)) × List Token) → r.arguments ts ≡ Ok x → ts ≡ spell_arguments x
unfolding r.arguments
arguments_written [] x h = cc
arguments_written (t.Name a ∷ []) x h = cc
arguments_written (t.Name a ∷ t.Close ∷ []) x h = cc
arguments_written (t.Name a ∷ t.Close ∷ t.Assign ∷ ts) x h = ap spell_arguments (ok_inj _ x h)
arguments_written (t.Name a ∷ t.Close ∷ y ∷ ts) x h = cc
arguments_written (t.Name a ∷ t.Comma ∷ []) x h = cc
arguments_written (t.Name a ∷ t.Comma ∷ t.Name b ∷ []) x h = cc
arguments_written (t.Name a ∷ t.Comma ∷ t.Name b ∷ t.Close ∷ []) x h = cc
arguments_written (t.Name a ∷ t.Comma ∷ t.Name b ∷ t.Close ∷ t.Assign ∷ ts) x h = ap spell_arguments (ok_inj _ x h)
arguments_written (t.Name a ∷ t.Comma ∷ t.Name b ∷ t.Close ∷ y ∷ ts) x h = cc
arguments_written (t.Name a ∷ t.Comma ∷ t.Name b ∷ y ∷ ts) x h = cc
arguments_written (t.Name a ∷ t.Comma ∷ y ∷ ts) x h = cc
arguments_written (t.Name a ∷ y ∷ ts) x h = cc
arguments_written (y ∷ ts) x h = cc

assigned_written : (ts rest : List Token) → r.assigned ts ≡ Ok rest → ts ≡ t.Close ∷ t.Assign ∷ rest
unfolding r.assigned
assigned_written [] rest h = cc
assigned_written (t.Close ∷ []) rest h = cc
assigned_written (t.Close ∷ t.Assign ∷ ts) rest h = ap (λ (l : List Token). t.Close ∷ t.Assign ∷ l) (ok_inj ts rest h)
assigned_written (t.Close ∷ x ∷ ts) rest h = cc
assigned_written (x ∷ ts) rest h = cc

over_written : (ts rest : List Token) → r.over ts ≡ Ok rest → ts ≡ t.Over ∷ rest
unfolding r.over
over_written [] rest h = cc
over_written (t.Over ∷ ts) rest h = ap (λ (l : List Token). t.Over ∷ l) (ok_inj ts rest h)
over_written (x ∷ ts) rest h = cc

or_syntax_ok : {A : Type 0} (given : Option A) (x : A) → r.or_syntax given ≡ Ok x → given ≡ Some x
or_syntax_ok None x h = cc
or_syntax_ok (Some y) x h = ap (λ (z : _). Some z) (ok_inj y x h)

read_written : (ts : List Token) (x : Written × List Token) → r.read writing ts ≡ Ok x → IsRight x.0 × (ts ≡ spell x.0 x.1)
unfolding r.read
read_written ts x h = is_written ts x.0 x.1 (or_syntax_ok (m.expression writing ts) x h)

abbrev spell_index_of : Option Written × List Token → List Token
spell_index_of x = spell_index x.0 x.1

index_written : (ts : List Token) (x : Option Written × List Token) → r.index writing ts ≡ Ok x → IsRightIndex x.0 × (ts ≡ spell_index x.0 x.1)
unfolding r.index
index_written [] x h = let e = ok_inj _ x h in (subst (λ (y : Option Written × List Token). IsRightIndex y.0) e tt, ap spell_index_of e)
index_written (t.Comma ∷ ts) x h =
    let (y, first, last) = bind_ok (r.read writing ts) _ x h in
    let w = read_written ts y first in
    let e = ok_inj _ x last in
    (subst (λ (z : Option Written × List Token). IsRightIndex z.0) e w.0, ap (λ (l : List Token). t.Comma ∷ l) w.1 ∙ ap spell_index_of e)
index_written (z ∷ ts) x h = let e = ok_inj _ x h in (subst (λ (y : Option Written × List Token). IsRightIndex y.0) e tt, ap spell_index_of e)

-- a line of the grammar
abbrev IsWritten : List Token → AlgorithmLine Written → Type 0
IsWritten ts l = IsRightLine l × (ts ≡ spell_line l)

definition_written : (name : List ℕ) (ts : List Token) (l : AlgorithmLine Written) → r.definition writing name ts ≡ Ok l
    → IsWritten (t.Func ∷ t.Name name ∷ t.Open ∷ ts) l
unfolding r.definition
definition_written name ts l h =
    let (x, first, next) = bind_ok (r.arguments ts) _ l h in
    let (right, read, last) = bind_ok (r.read writing x.1) _ l next in
    let w = read_written x.1 right read in
    let e = left_written (line.Func (record { name = name; first_argument = x.0.0; second_argument = x.0.1; right = right.0 })) l right.1 last in
    let spelled : x.1 ≡ spell right.0 [] = w.1 ∙ ap (spell right.0) e.1 in (
      subst IsRightLine e.0 w.0,
      ap (λ (k : List Token). t.Func ∷ t.Name name ∷ t.Open ∷ k) (arguments_written ts x first ∙ ap (λ (k : List Token). spell_arguments (x.0, k)) spelled)
          ∙ ap spell_line e.0,
    )

change_written : (name : List ℕ) (ts : List Token) (l : AlgorithmLine Written) → r.change writing name ts ≡ Ok l → IsWritten (t.Update ∷ t.Name name ∷ t.Open ∷ ts) l
unfolding r.change
change_written name ts l h =
    let (x, read_x, h1) = bind_ok (r.read writing ts) _ l h in
    let (y, read_y, h2) = bind_ok (r.index writing x.1) _ l h1 in
    let (behind, read_behind, h3) = bind_ok (r.assigned y.1) _ l h2 in
    let (right, read_right, h4) = bind_ok (r.read writing behind) _ l h3 in
    let (ranges, read_ranges, h5) = bind_ok (r.over right.1) _ l h4 in
    let (first, read_first, h6) = bind_ok (r.bounds ranges) _ l h5 in
    let (second, read_second, h7) = bind_ok (r.more_bounds first.1) _ l h6 in
    let wx = read_written ts x read_x in
    let wy = index_written x.1 y read_y in
    let wr = read_written behind right read_right in
    let e = ok_inj _ l h7 in
    let s6 : first.1 ≡ spell_second_bounds second = more_bounds_written first.1 second read_second in
    let s5 : ranges ≡ spell_bounds first.0 (spell_second_bounds second) = bounds_written ranges first.0 first.1 read_first ∙ ap (spell_bounds first.0) s6 in
    let s4 : right.1 ≡ t.Over ∷ spell_bounds first.0 (spell_second_bounds second) = over_written right.1 ranges read_ranges
    ∙ ap (λ (k : List Token). t.Over ∷ k) s5 in
    let s3 : behind ≡ spell right.0 (t.Over ∷ spell_bounds first.0 (spell_second_bounds second)) = wr.1 ∙ ap (spell right.0) s4 in
    let s2 = assigned_written y.1 behind read_behind ∙ ap (λ (k : List Token). t.Close ∷ t.Assign ∷ k) s3 in
    let s1 = wy.1 ∙ ap (spell_index y.0) s2 in
    let s0 = wx.1 ∙ ap (spell x.0) s1 in
    (subst IsRightLine e (wx.0, wy.0, wr.0), ap (λ (k : List Token). t.Update ∷ t.Name name ∷ t.Open ∷ k) s0 ∙ ap spell_line e)

pub line_written : (ts : List Token) (l : AlgorithmLine Written) → r.read_line writing ts ≡ Ok l → IsWritten ts l
unfolding r.read_line
line_written [] l h = let e = ok_inj line.Blank l h in (subst IsRightLine e tt, ap spell_line e)
line_written (t.Input ∷ ts) l h =
    let (x, first, next) = bind_ok (r.extents ts) _ l h in
    let (is_bytes, second, last) = bind_ok (r.kind x.1) _ l next in
    let e = ok_inj (line.Input x.0 is_bytes) l last in
    let spelled : ts ≡ spell_extents x.0 (spell_kind is_bytes) = extents_written ts x.0 x.1 first ∙ ap (spell_extents x.0) (kind_written x.1 is_bytes second) in
    (subst IsRightLine e tt, ap (λ (k : List Token). t.Input ∷ k) spelled ∙ ap spell_line e)
line_written (t.Output ∷ ts) l h =
    let (x, first, last) = bind_ok (r.extents ts) _ l h in
    let e = left_written (line.Output x.0) l x.1 last in
    let spelled : ts ≡ spell_extents x.0 [] = extents_written ts x.0 x.1 first ∙ ap (spell_extents x.0) e.1 in
    (subst IsRightLine e.0 tt, ap (λ (k : List Token). t.Output ∷ k) spelled ∙ ap spell_line e.0)
line_written (t.Func ∷ t.Name name ∷ t.Open ∷ ts) l h = definition_written name ts l h
line_written (t.Update ∷ t.Name name ∷ t.Open ∷ ts) l h = change_written name ts l h
line_written (t.Func ∷ []) l h = cc
line_written (t.Func ∷ t.Name name ∷ []) l h = cc
line_written (t.Func ∷ t.Name name ∷ x ∷ ts) l h = cc
line_written (t.Func ∷ x ∷ ts) l h = cc
line_written (t.Update ∷ []) l h = cc
line_written (t.Update ∷ t.Name name ∷ []) l h = cc
line_written (t.Update ∷ t.Name name ∷ x ∷ ts) l h = cc
line_written (t.Update ∷ x ∷ ts) l h = cc
line_written (x ∷ ts) l h = cc

-- ---- what is written is read

-- after extents there is no number
extents_read : (name : List ℕ) (width : ℕ) (height : Option ℕ) (is_bytes : Bool)
    → r.extents (t.Name name ∷ t.Number width ∷ spell_height height (spell_kind is_bytes)) ≡ Ok (
      record { name = name; width = width; height = height },
      spell_kind is_bytes,
    )
unfolding r.extents
extents_read name width None false = refl
extents_read name width None true = refl
extents_read name width (Some height) is_bytes = refl

kind_read : (is_bytes : Bool) → r.kind (spell_kind is_bytes) ≡ Ok is_bytes
unfolding r.kind
kind_read false = refl
kind_read true = refl

bounds_read : (name : List ℕ) (is_negative : Bool) (minimum extent : ℕ) (rest : List Token)
    → r.bounds (t.Name name ∷ spell_sign is_negative (t.Number minimum ∷ t.Number extent ∷ rest))
    ≡ Ok (record { name = name; is_negative = is_negative; minimum = minimum; extent = extent }, rest)
unfolding r.bounds
bounds_read name false minimum extent rest = refl
bounds_read name true minimum extent rest = refl

more_bounds_read : (second : Option ReductionBounds) → r.more_bounds (spell_second_bounds second) ≡ Ok second
unfolding r.more_bounds
more_bounds_read None = refl
more_bounds_read (Some b) = rw (bounds_read b.name b.is_negative b.minimum b.extent []) refl

arguments_read : (first : List ℕ) (second : Option (List ℕ)) (rest : List Token) → r.arguments (spell_arguments ((first, second), rest))
    ≡ Ok ((first, second), rest)
unfolding r.arguments
arguments_read first None rest = refl
arguments_read first (Some second) rest = refl

read_read : (w : Written) (rest : List Token) → IsRight w → is_open rest ≡ false → m.is_operator rest ≡ false → r.read writing (spell w rest) ≡ Ok (w, rest)
unfolding r.read
read_read w rest right o stops = ap r.or_syntax (is_read w rest right o stops)

index_read : (y : Option Written) (rest : List Token) → IsRightIndex y → r.index writing (spell_index y (t.Close ∷ rest)) ≡ Ok (y, t.Close ∷ rest)
unfolding r.index
index_read None rest right = refl
index_read (Some w) rest right = rw (read_read w (t.Close ∷ rest) right refl refl) refl

index_open : (y : Option Written) (rest : List Token) → (is_open (spell_index y (t.Close ∷ rest)) ≡ false) × (m.is_operator (spell_index y (t.Close ∷ rest))
    ≡ false)
index_open None rest = (refl, refl)
index_open (Some w) rest = (refl, refl)

definition_read : (d : Definition Written) → IsRight d.right
    → r.definition writing d.name (spell_arguments ((d.first_argument, d.second_argument), spell d.right [])) ≡ Ok (line.Func d)
unfolding r.definition
definition_read d right = rw (arguments_read d.first_argument d.second_argument (spell d.right []), read_read d.right [] right refl refl) refl

change_read : (u : Change Written) → IsRight u.left_x → IsRightIndex u.left_y → IsRight u.right
    → r.change writing u.name (spell u.left_x (spell_index u.left_y (t.Close ∷ t.Assign
    ∷ spell u.right (t.Over ∷ spell_bounds u.first (spell_second_bounds u.second))))) ≡ Ok (line.Update u)
unfolding r.change r.assigned r.over
change_read u rx ry rr =
    let behind : List Token = spell u.right (t.Over ∷ spell_bounds u.first (spell_second_bounds u.second)) in
    let o = index_open u.left_y (t.Assign ∷ behind) in
    rw (
      read_read u.left_x (spell_index u.left_y (t.Close ∷ t.Assign ∷ behind)) rx o.0 o.1,
      index_read u.left_y (t.Assign ∷ behind) ry,
      read_read u.right (t.Over ∷ spell_bounds u.first (spell_second_bounds u.second)) rr refl refl,
      bounds_read u.first.name u.first.is_negative u.first.minimum u.first.extent (spell_second_bounds u.second),
      more_bounds_read u.second,
    ) refl

pub line_read : (l : AlgorithmLine Written) → IsRightLine l → r.read_line writing (spell_line l) ≡ Ok l
unfolding r.read_line
line_read line.Blank right = refl
line_read (line.Input e is_bytes) right = rw (extents_read e.name e.width e.height is_bytes, kind_read is_bytes) refl
line_read (line.Func d) right = definition_read d right
line_read (line.Update u) right = change_read u right.0 right.1 right.2
line_read (line.Output e) right = rw (extents_read e.name e.width e.height false) refl
