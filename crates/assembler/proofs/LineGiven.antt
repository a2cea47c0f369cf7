-- What a line gives, from what is kept of its statement.
use Rattle.std.proofs.Common.{◌≡◌, ℕ, List, Option, Some, None, Result, Ok, Err, option_map, refl, sym, ap, ◌∙◌}
use Rattle.assembler_syntax.specs.Tokens.{tokens_of}
use Rattle.assembler_syntax.specs.Statements.{statement_of, head_of, up_to}
use Rattle.assembler_syntax.specs.declared.statements.Statement.{Statement}
use Rattle.assembler.specs.Judging.{Context, Given}
use Rattle.assembler.specs.Lines.{line_given, stated}
use Rattle.assembler.specs.Places.{after}
use Rattle.assembler.specs.Products.{Performs, Makes}
use Rattle.assembler.specs.declared.faults.AsmFault.{AsmFault}
use Rattle.assembler.specs.declared.faults.AsmFault.TheVariants.{Syntax}
use Rattle.assembler.specs.declared.products.LineProduct.{LineProduct}
use Rattle.assembler.specs.declared.locations.LineLocation.{LineLocation}
use Rattle.assembler.specs.declared.surveys.Here.{Here}
use Rattle.assembler.specs.declared.surveys.Survey.{Survey}
use Rattle.assembler.specs.Building.{GivesProduct}
use Rattle.assembler.proofs.ManyOperands.{stated_cut}

no_statement_by : (c : Context) (line : List ℕ) (whole : Option Statement) → statement_of (tokens_of line) ≡ whole → None ≡ option_map (up_to 8) whole
    → line_given c line ≡ Err Syntax
unfolding line_given
no_statement_by c line None is none = rw is refl
no_statement_by c line (Some statement) is none = absurd cc

pub no_statement : (c : Context) (line : List ℕ) (found : Option Statement) → found ≡ option_map (up_to 8) (statement_of (tokens_of line)) → found ≡ None
    → line_given c line ≡ Err Syntax
no_statement c line found f none = no_statement_by c line (statement_of (tokens_of line)) refl (sym none ∙ f)

statement_by : (c : Context) (line : List ℕ) (whole : Option Statement) (statement : Statement) → statement_of (tokens_of line) ≡ whole
    → Some statement ≡ option_map (up_to 8) whole
    → line_given c line ≡ stated c (after c.here.place (head_of (tokens_of line))) statement
unfolding line_given
statement_by c line None statement is some = absurd cc
statement_by c line (Some whole) statement is some =
    let same : statement ≡ up_to 8 whole = cc in
    rw (is, same) (sym (stated_cut c (after c.here.place (head_of (tokens_of line))) whole))

-- what is kept of a statement gives what it gives
pub statement_given : (c : Context) (line : List ℕ) (found : Option Statement) (statement : Statement)
    → found ≡ option_map (up_to 8) (statement_of (tokens_of line)) → found ≡ Some statement
    → line_given c line ≡ stated c (after c.here.place (head_of (tokens_of line))) statement
statement_given c line found statement f some = statement_by c line (statement_of (tokens_of line)) statement refl (sym some ∙ f)

-- a product of what was given
pub given_of : (judged : Result Given AsmFault) (product : LineProduct) → Performs judged (Ok product) → (given : Given) × (judged ≡ Ok given) × Makes product given
given_of (Ok given) product performs = (given, refl, performs)
given_of (Err fault) product performs = elim performs [ ]

pub fault_of : (judged : Result Given AsmFault) (fault : AsmFault) → Performs judged (Err fault) → judged ≡ Err fault
fault_of (Ok given) fault performs = elim performs [ ]
fault_of (Err wanted) fault performs = ap (λ (f : AsmFault). Err f) (sym performs)

-- ---- a line as code judges it

judged_as : (survey : Survey) (here : Here) (line : List ℕ) (found : Option Statement) (statement : Statement) (behind : LineLocation)
    → found ≡ option_map (up_to 8) (statement_of (tokens_of line)) → found ≡ Some statement → behind ≡ after here.place (head_of (tokens_of line))
    → line_given (record { survey = survey; here = here }) line ≡ stated (record { survey = survey; here = here }) behind statement
judged_as survey here line found statement behind f some b =
    statement_given (record { survey = survey; here = here }) line found statement f some
    ∙ sym (ap (λ (place : LineLocation). stated (record { survey = survey; here = here }) place statement) b)

pub product_given : (survey : Survey) (here : Here) (line : List ℕ) (found : Option Statement) (statement : Statement) (behind : LineLocation)
    (product : LineProduct) (answered : Result LineProduct AsmFault)
    → found ≡ option_map (up_to 8) (statement_of (tokens_of line)) → found ≡ Some statement → behind ≡ after here.place (head_of (tokens_of line))
    → Performs (stated (record { survey = survey; here = here }) behind statement) answered → answered ≡ Ok product
    → GivesProduct survey here line product behind
product_given survey here line found statement behind product answered f some b performs ok =
    let judged = judged_as survey here line found statement behind f some b in
    let g = given_of (stated (record { survey = survey; here = here }) behind statement) product (rw ok at performs) in
    record { given = g.0; judged = judged ∙ g.1; made = g.2; next = b }

pub fault_given : (survey : Survey) (here : Here) (line : List ℕ) (found : Option Statement) (statement : Statement) (behind : LineLocation)
    (fault : AsmFault) (answered : Result LineProduct AsmFault)
    → found ≡ option_map (up_to 8) (statement_of (tokens_of line)) → found ≡ Some statement → behind ≡ after here.place (head_of (tokens_of line))
    → Performs (stated (record { survey = survey; here = here }) behind statement) answered → answered ≡ Err fault
    → line_given (record { survey = survey; here = here }) line ≡ Err fault
fault_given survey here line found statement behind fault answered f some b performs err =
    judged_as survey here line found statement behind f some b
    ∙ fault_of (stated (record { survey = survey; here = here }) behind statement) fault (rw err at performs)
