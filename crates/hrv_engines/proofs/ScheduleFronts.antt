-- A schedule with more lines than there may be is refused, whatever comes after the first of those too many.
use Rattle.std.proofs.Common.{◌≡◌, ◌≢◌, ◌∙◌, ◌+◌, get_or, take, ◌<◌, ◌≤◌, ◌==◌, ℕ, zero, suc, Bool, true, false, cond, arith, refl, sym, ap, List, [], ◌∷◌, ◌++◌, length}
use Rattle.std.specs.Prelude.{min, nat_le, slice_get, Option, Some, None, Result, Ok, Err}
use Rattle.std.proofs.lemmas.Bool.Decides.{nat_tests}
use Rattle.std.proofs.lemmas.List.{take_more}
use Rattle.line_text.specs.Lines.{◌>>=◌, joined, lines_of, located, taken_from}
use Rattle.halide_pipeline.specs.Pipelines.{Pipeline}
use Rattle.schedule_lines.specs.declared.faults.ScheduleFault.{ScheduleFault}
use Rattle.schedule_lines.specs.declared.lines.Computed.{Computed}
use Rattle.schedule_lines.specs.declared.lines.Directive.{Directive}
use Rattle.schedule_lines.specs.declared.lines.Directive.TheVariants as directives
use Rattle.schedule_lines.specs.declared.lines.ScheduleLine.{ScheduleLine}
use Rattle.schedule_lines.specs.declared.lines.ScheduleLine.TheVariants as lines
use Rattle.schedule_lines.specs.declared.lines.LoopDirective.{LoopDirective}
use Rattle.schedule_lines.specs.declared.stages.Stage.{Stage}
use Rattle.schedule_lines.specs.declared.stages.StageName.{StageName}
use Rattle.schedule.specs.declared.plans.FuncPlan.{FuncPlan}
use Rattle.schedule.specs.declared.readers.ScheduleReader.{ScheduleReader}
use Rattle.schedule.specs.declared.readers.LineSubject.{LineSubject}
use Rattle.schedule.specs.declared.readers.LineSubject.TheVariants as targets
use Rattle.schedule.specs.Reading.{computed_as, computed_of, compute_fault, directed_of, finished, line_of_bytes, new_stage, read, settled, start, taken}
use Rattle.schedule.specs.Reading.{taken_directive, target}
use Rattle.hrv_engines.specs.inner.LineCounts.{line_feeds}

-- ---- lines of a text and of a longer one: the same but for the last

-- the first this many are the same, and more follow in both
abbrev pub ShareFirst : ℕ → List (List ℕ) → List (List ℕ) → Type 0
ShareFirst n [] others = ⊥
ShareFirst n (line ∷ lines) [] = ⊥
ShareFirst zero (line ∷ lines) (other ∷ others) = Unit {0}
ShareFirst (suc n) (line ∷ lines) (other ∷ others) = (line ≡ other) × ShareFirst n lines others

one_joined : (byte : ℕ) (others : List (List ℕ)) → ShareFirst 0 ((byte ∷ []) ∷ []) (joined byte others)
one_joined byte [] = tt
one_joined byte (other ∷ others) = tt

both_joined : (n byte : ℕ) (lines others : List (List ℕ)) → ShareFirst n lines others → ShareFirst n (joined byte lines) (joined byte others)
both_joined n byte [] others is = absurd is
both_joined n byte (line ∷ lines) [] is = absurd is
both_joined zero byte (line ∷ lines) (other ∷ others) is = tt
both_joined (suc n) byte (line ∷ lines) (other ∷ others) is = (ap (λ (l : List ℕ). byte ∷ l) is.0, is.1)

by_feed : (n byte : ℕ) (test : Bool) (lines others : List (List ℕ)) → ((m : ℕ) → m < length lines → ShareFirst m lines others)
    → n < length (cond test ([] ∷ lines) (joined byte lines))
    → ShareFirst n (cond test ([] ∷ lines) (joined byte lines)) (cond test ([] ∷ others) (joined byte others))
by_feed zero byte true lines others share long = tt
by_feed (suc n) byte true lines others share long = (refl, share n (omega (arith, long)))
by_feed zero byte false [] others share long = one_joined byte others
by_feed (suc n) byte false [] others share long = absurd (omega (arith, long))
by_feed n byte false (line ∷ lines) others share long = both_joined n byte (line ∷ lines) others (share n (omega (arith, long)))

lines_shared : (text rest : List ℕ) (n : ℕ) → n < length (lines_of text) → ShareFirst n (lines_of text) (lines_of (text ++ rest))
unfolding lines_of
lines_shared [] rest n long = absurd (omega (arith, long))
lines_shared (byte ∷ text) rest n long =
    by_feed n byte (byte == 10) (lines_of text) (lines_of (text ++ rest)) (lines_shared text rest) long

-- ---- each line is counted

-- a reader, where there is one, has this many lines
abbrev pub HasRead : ℕ → Result ScheduleReader ScheduleFault → Type 0
HasRead lines (Ok reader) = reader.lines ≡ lines
HasRead lines (Err fault) = Unit {0}

computed_counts : (reader : ScheduleReader) (func : ℕ) (computed : Computed) (plan : FuncPlan) (wrong : Option ScheduleFault)
    → HasRead reader.lines (computed_as reader func computed plan wrong)
computed_counts reader func computed plan (Some wrong) = tt
computed_counts reader func computed plan None = refl

computed_of_counts : (pipeline : Pipeline) (reader : ScheduleReader) (func : ℕ) (computed : Computed) (plan : Option FuncPlan)
    → HasRead reader.lines (computed_of pipeline reader func computed plan)
computed_of_counts pipeline reader func computed None = tt
computed_of_counts pipeline reader func computed (Some plan) = computed_counts reader func computed plan (compute_fault pipeline func plan)

directed_counts : (reader : ScheduleReader) (name : StageName) (directive : LoopDirective) (plan : Option FuncPlan)
    → HasRead reader.lines (directed_of reader name directive plan)
directed_counts reader name directive None = tt
directed_counts reader name directive (Some plan) = by (new_stage plan name.update reader.lines directive)
  where
    by : (new : Result Stage ScheduleFault) → HasRead reader.lines (new >>= λ (own : Stage). Ok (record {
      lines = reader.lines;
      plans = Rattle.std.specs.Prelude.slice_set reader.plans name.func (Rattle.schedule.specs.Plans.with_stage plan name.update own);
    }))
    by (Ok own) = refl
    by (Err wrong) = tt

directive_counts : (pipeline : Pipeline) (reader : ScheduleReader) (subject : Option LineSubject) (directive : Directive)
    → HasRead reader.lines (taken_directive pipeline reader subject directive)
directive_counts pipeline reader None directive = tt
directive_counts pipeline reader (Some targets.Input) directive = tt
directive_counts pipeline reader (Some (targets.Stage name)) (directives.OfPlace computed) =
    computed_of_counts pipeline reader name.func computed (slice_get reader.plans name.func)
directive_counts pipeline reader (Some (targets.Stage name)) (directives.OfLoops directive) =
    directed_counts reader name directive (slice_get reader.plans name.func)

settled_counts : (pipeline : Pipeline) (reader : ScheduleReader) (line : ScheduleLine) → HasRead reader.lines (settled pipeline reader line)
settled_counts pipeline reader lines.Blank = refl
settled_counts pipeline reader (lines.Directive subject directive) =
    directive_counts pipeline reader (target pipeline reader.plans subject) directive

taken_counts : (pipeline : Pipeline) (reader : ScheduleReader) (line : List ℕ) → HasRead (reader.lines + 1) (taken pipeline reader line)
unfolding taken
taken_counts pipeline reader line = by (nat_le 256 reader.lines) (line_of_bytes line)
  where
    by : (test : Bool) (said : Result ScheduleLine ScheduleFault)
        → HasRead (reader.lines + 1)
        (cond test (Err ScheduleFault.Syntax)
        (said >>= λ (own : ScheduleLine). settled pipeline (record { lines = reader.lines + 1; plans = reader.plans }) own))
    by true said = tt
    by false (Ok own) = settled_counts pipeline (record { lines = reader.lines + 1; plans = reader.plans }) own
    by false (Err wrong) = tt

-- ---- the line that is one too many decides

too_many : (pipeline : Pipeline) (reader : ScheduleReader) (line other : List ℕ) → 256 ≤ reader.lines
    → taken pipeline reader line ≡ taken pipeline reader other
unfolding taken
too_many pipeline reader line other many =
    let is : nat_le 256 reader.lines ≡ true = grind (arith, nat_tests) in
    rw is refl

none_taken : (pipeline : Pipeline) (reader : ScheduleReader) (line : List ℕ) → 256 ≤ reader.lines → taken pipeline reader line ≡ Err ScheduleFault.Syntax
unfolding taken
none_taken pipeline reader line many =
    let is : nat_le 256 reader.lines ≡ true = grind (arith, nat_tests) in
    rw is refl

lines_taken : (pipeline : Pipeline) (n number : ℕ) (reader : ScheduleReader) (first others : List (List ℕ)) → ShareFirst n first others
    → 256 ≤ reader.lines + n
    → taken_from (taken pipeline) number reader others ≡ taken_from (taken pipeline) number reader first
unfolding taken_from
lines_taken pipeline n number reader [] others share many = absurd share
lines_taken pipeline n number reader (line ∷ first) [] share many = absurd share
lines_taken pipeline zero number reader (line ∷ first) (other ∷ others) share many =
    refused (taken pipeline reader line) (taken pipeline reader other) (too_many pipeline reader line other (omega (arith, many)))
    (none_taken pipeline reader line (omega (arith, many)))
  where
    refused : (one two : Result ScheduleReader ScheduleFault) → one ≡ two → one ≡ Err ScheduleFault.Syntax
        → located number two (λ next. taken_from (taken pipeline) (number + 1) next others)
        ≡ located number one (λ next. taken_from (taken pipeline) (number + 1) next first)
    refused one two same is = rw (sym same, is) refl
lines_taken pipeline (suc n) number reader (line ∷ first) (other ∷ others) share many =
    ap (λ (l : List ℕ). located number (taken pipeline reader l) (λ next. taken_from (taken pipeline) (number + 1) next others)) (sym share.0)
    ∙ by (taken pipeline reader line) (taken_counts pipeline reader line)
    (λ next counts. lines_taken pipeline n (number + 1) next first others share.1 (omega (arith, many, counts)))
  where
    by : (took : Result ScheduleReader ScheduleFault) → HasRead (reader.lines + 1) took
        → ((next : ScheduleReader) → next.lines ≡ reader.lines + 1
        → taken_from (taken pipeline) (number + 1) next others ≡ taken_from (taken pipeline) (number + 1) next first)
        → located number took (λ next. taken_from (taken pipeline) (number + 1) next others)
        ≡ located number took (λ next. taken_from (taken pipeline) (number + 1) next first)
    by (Ok next) counts same = same next counts
    by (Err wrong) counts same = refl

-- What is read of a text of more than 256 lines is read of each that begins with it.
pub same_read : (pipeline : Pipeline) (kept rest : List ℕ) → 256 < length (lines_of kept) → read pipeline (kept ++ rest) ≡ read pipeline kept
unfolding read
same_read pipeline kept rest long =
    ap (λ (r : Result ScheduleReader (ℕ × ScheduleFault)). r >>= λ (reader : ScheduleReader). finished pipeline reader)
    (lines_taken pipeline 256 1 (start pipeline) (lines_of kept) (lines_of (kept ++ rest)) (lines_shared kept rest 256 long) (omega arith))

-- ---- lines that have begun: one for each line feed, and one more after the last

feeds_by : (test : Bool) (byte feeds : ℕ) (lines : List (List ℕ)) → feeds ≤ length lines
    → cond test (suc feeds) feeds ≤ length (cond test ([] ∷ lines) (joined byte lines))
feeds_by true byte feeds lines less = omega (arith, less)
feeds_by false byte feeds [] less = omega (arith, less)
feeds_by false byte feeds (line ∷ lines) less = omega (arith, less)

pub feeds_within : (text : List ℕ) → line_feeds text ≤ length (lines_of text)
unfolding lines_of
feeds_within [] = omega arith
feeds_within (byte ∷ text) = feeds_by (byte == 10) byte (line_feeds text) (lines_of text) (feeds_within text)

begun_by : (test : Bool) (byte feeds : ℕ) (lines : List (List ℕ)) → feeds < length lines
    → cond test (suc feeds) feeds < length (cond test ([] ∷ lines) (joined byte lines))
begun_by true byte feeds lines less = omega (arith, less)
begun_by false byte feeds [] less = absurd (omega (arith, less))
begun_by false byte feeds (line ∷ lines) less = omega (arith, less)

-- after the last line feed a line has begun
pub begun_within : (text : List ℕ) (byte : ℕ) → byte ≢ 10 → line_feeds (text ++ byte ∷ []) < length (lines_of (text ++ byte ∷ []))
unfolding lines_of
begun_within [] byte apart =
    let is : byte == 10 ≡ false = grind (arith, nat_tests) in
    rw is (omega arith)
begun_within (first ∷ text) byte apart =
    begun_by (first == 10) first (line_feeds (text ++ byte ∷ [])) (lines_of (text ++ byte ∷ [])) (begun_within text byte apart)

pub feeds-append : (text more : List ℕ) → line_feeds (text ++ more) ≡ line_feeds text + line_feeds more
feeds-append [] more = omega arith
feeds-append (byte ∷ text) more = by (byte == 10) (feeds-append text more)
  where
    by : (test : Bool) → line_feeds (text ++ more) ≡ line_feeds text + line_feeds more
        → cond test (suc (line_feeds (text ++ more))) (line_feeds (text ++ more)) ≡ cond test (suc (line_feeds text)) (line_feeds text) + line_feeds more
    by true e = omega (arith, e)
    by false e = e

pub one_more_byte : (text : List ℕ) (byte : ℕ) → line_feeds (text ++ byte ∷ []) ≡ line_feeds text + cond (byte == 10) 1 0
one_more_byte text byte = feeds-append text (byte ∷ []) ∙ ap (λ (n : ℕ). line_feeds text + n) (by (byte == 10))
  where
    by : (test : Bool) → cond test (suc 0) 0 ≡ cond test 1 0
    by true = refl
    by false = refl

-- one more byte of a loop
pub next_count : (bytes : List ℕ) (i count made : ℕ) → i < length bytes → count ≡ line_feeds (take i bytes)
    → made ≡ count + cond (get_or bytes i 0 == 10) 1 0 → made ≡ line_feeds (take (i + 1) bytes)
next_count bytes i count made within is_count is_made =
    is_made ∙ ap (λ (n : ℕ). n + cond (get_or bytes i 0 == 10) 1 0) is_count ∙ sym (one_more_byte (take i bytes) (get_or bytes i 0))
    ∙ ap line_feeds (sym (take_more bytes i 0 within))

-- more line feeds than lines, or as many and a byte after the last
pub more_lines : (text : List ℕ) (feeds most : ℕ) → feeds ≡ line_feeds text → most < feeds → most < length (lines_of text)
more_lines text feeds most is more = let within = feeds_within text in omega (arith, is, more, within)

pub one_begun : (text front : List ℕ) (byte feeds most : ℕ) → feeds ≡ line_feeds text → feeds ≡ most → text ≡ front ++ byte ∷ [] → byte ≢ 10
    → most < length (lines_of text)
one_begun text front byte feeds most is same split apart =
    let begun = begun_within front byte apart in
    omega (arith, is, same, begun, ap line_feeds split, ap (λ (t : List ℕ). length (lines_of t)) split)

pub feed_counted : (byte count made : ℕ) → byte ≡ 10 → made ≡ count + 1 → made ≡ count + cond (byte == 10) 1 0
feed_counted byte count made is one = let test : byte == 10 ≡ true = grind (arith, nat_tests) in rw test one

pub other_passed : (byte count made : ℕ) → byte ≢ 10 → made ≡ count → made ≡ count + cond (byte == 10) 1 0
other_passed byte count made apart same = let test : byte == 10 ≡ false = grind (arith, nat_tests) in rw test (omega (arith, same))

few_feeds : (text : List ℕ) → line_feeds text ≤ length text
few_feeds [] = omega arith
few_feeds (byte ∷ text) = by (byte == 10) (few_feeds text)
  where
    by : (test : Bool) → line_feeds text ≤ length text → cond test (suc (line_feeds text)) (line_feeds text) ≤ suc (length text)
    by true less = omega (arith, less)
    by false less = omega (arith, less)

-- the line feeds of a text and of what is put after it, added up in a number that holds the length of both
pub feeds_added : (before front after : List ℕ) (old more sum most : ℕ) → old ≡ line_feeds before → more ≡ line_feeds front → after ≡ before ++ front
    → sum ≡ min (old + more) most → length after ≤ most → sum ≡ line_feeds after
feeds_added before front after old more sum most is_old is_more is_after is_sum room =
    let all = feeds-append before front in
    let few = few_feeds after in
    omega (arith, is_old, is_more, is_sum, room, all, few, ap line_feeds is_after)
