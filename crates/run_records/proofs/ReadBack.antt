-- The text of a record is read as that record.
use Rattle.std.proofs.Common.{◌≡◌, ◌≢◌, ℕ, zero, suc, ◌+◌, ◌^◌, ◌<◌, ◌≤◌, ◌/◌, ◌%◌, ◌*◌, true, List, [], ◌∷◌, ◌++◌, length, codes}
use Rattle.std.proofs.Common.{Option, Some, Result, Ok, nat_eq, slice_index, refl, sym, ap, subst, ◌∙◌, arith}
use Rattle.std.specs.Fmt.{decimal}
use Rattle.std.specs.List.{list_all, prefix_len, starts_with}
use Rattle.std.proofs.Math.Seq.{take-append_seam, drop-append_seam}
use Rattle.std.proofs.lemmas.Bool.{eqb-true}
use Rattle.std.proofs.lemmas.Bool.Decides.{nat_tests}
use Rattle.std.proofs.lemmas.List.{append_assoc, append-nil}
use Rattle.hex.specs.Hex.{IsBytes, decode_pairs, decode_sized, encode_lower, encode_with, lower_digits}
use Rattle.hex.proofs.HexLemmas.{IsDigits-lower_digits, decode_pairs-encode_with, length-encode_with}
use Rattle.line_text.specs.Lines.{◌>>=◌, decimal_number, first_line, is_digit, is_in_line}
use Rattle.line_text.proofs.Numerals.{decimal_digits, decimal_value}
use Rattle.line_text.proofs.SpanLaws.{prefix_len-front}
use Rattle.rv_insn.specs.Trap.{trap_number}
use Rattle.rv_insn.specs.declared.outcomes.Trap.TheVariants as traps
use Rattle.run_records.specs.declared.faults.RecordError.{RecordError}
use Rattle.run_records.specs.declared.faults.RecordFault.{RecordFault}
use Rattle.run_records.specs.declared.faults.RecordFault.TheVariants as faults
use Rattle.run_records.specs.declared.records.Ending.{Ending}
use Rattle.run_records.specs.declared.records.Ending.TheVariants.{Finished, Limit, Trapped}
use Rattle.run_records.specs.RecordText.{Contents, IsRecord, are_visible, at_end, behind_heading, behind_name, digest_in, digest_item, ending_in, ending_item}
use Rattle.run_records.specs.RecordText.{ending_text, headed, if_decoded, item, most_limit, number_in, number_item, record_in, record_text, same_ending, trap_of}
use Rattle.run_records.specs.RecordText.{with_meaning, with_value, word_in, word_item}

-- ---- a line is read back

line_back : (line rest : List ℕ) → list_all is_in_line line ≡ true → first_line ((line ++ 10 ∷ []) ++ rest) ≡ (line, rest)
line_back line rest all =
    let whole = append_assoc line (10 ∷ []) rest in
    let long = prefix_len-front is_in_line line (10 ∷ rest) all refl in
    let front = take-append_seam line (10 ∷ rest) in
    let behind = drop-append_seam line (10 ∷ rest) in
    ap first_line whole ∙ rw (long, front, behind) refl

-- a line of a name and a value that means something
item_back : {A : Type 0} (fault : RecordFault) (means : List ℕ → Option A) (number : ℕ) (name value rest : List ℕ) (meaning : A)
    → starts_with nat_eq (name ++ value) name ≡ true → list_all is_in_line (name ++ value) ≡ true → means value ≡ Some meaning
    → item fault means number name ((name ++ value ++ 10 ∷ []) ++ rest) ≡ Ok (meaning, rest)
item_back {A} fault means number name value rest meaning starts all is =
    let line = line_back (name ++ value) rest all in
    let behind = drop-append_seam name value in
    ap (λ lines. with_value fault means number (behind_name name lines)) line
    ∙ rw (starts, behind) (ap (λ (m : Option A). with_meaning fault number rest m) is)

-- ---- values are read back

visible_line : (word : List ℕ) → are_visible word ≡ true → list_all is_in_line word ≡ true
visible_line [] all = refl
visible_line (byte ∷ word) all = let rest = visible_line word in grind (arith, nat_tests)

word_back : (word : List ℕ) → word ≢ [] → are_visible word ≡ true → word_in word ≡ Some word
unfolding word_in
word_back [] some visible = absurd (some refl)
word_back (byte ∷ word) some visible = grind (arith, nat_tests)

digits_line : (digits : List ℕ) → list_all is_digit digits ≡ true → list_all is_in_line digits ≡ true
digits_line [] all = refl
digits_line (digit ∷ digits) all = let rest = digits_line digits in grind (arith, nat_tests)

number_line : (n : ℕ) → n ≤ most_limit → list_all is_in_line (decimal n) ≡ true
number_line n few = digits_line (decimal n) (decimal_digits n (omega (arith, few)))

number_read : (word : List ℕ) (most n : ℕ) → prefix_len is_digit word ≡ length word → decimal_number word ≡ n → 1 ≤ n → n ≤ most → number_in most word ≡ Some n
unfolding number_in
number_read word most n all value some few = grind (arith, nat_tests)

number_back : (most n : ℕ) → 1 ≤ n → n ≤ most → most ≤ most_limit → number_in most (decimal n) ≡ Some n
number_back most n some few bound =
    let fits : n < 2 ^ 64 = omega (arith, few, bound) in
    let all = subst (λ (word : List ℕ). prefix_len is_digit word ≡ length (decimal n)) (append-nil (decimal n))
    (prefix_len-front is_digit (decimal n) [] (decimal_digits n fits) refl) in
    number_read (decimal n) most n all (decimal_value n fits) some few

table_line : (table : List ℕ) (k : ℕ) → list_all is_in_line table ≡ true → is_in_line (slice_index table k) ≡ true
table_line [] k all = refl
table_line (byte ∷ table) zero all = grind (arith, nat_tests)
table_line (byte ∷ table) (suc k) all = let rest = table_line table k in grind (arith, nat_tests)

hex_line : (bytes : List ℕ) → list_all is_in_line (encode_lower bytes) ≡ true
unfolding encode_with
hex_line [] = refl
hex_line (byte ∷ bytes) = rw (table_line lower_digits (byte / 16) refl, table_line lower_digits (byte % 16) refl) (hex_line bytes)

sized : (text : List ℕ) (n : ℕ) → length text ≡ 2 * n → decode_sized text n ≡ decode_pairs 0 text
sized text n long = grind (arith, nat_tests)

digest_back : (digest : List ℕ) → length digest ≡ 32 → IsBytes digest → digest_in (encode_lower digest) ≡ Some digest
unfolding digest_in
digest_back digest long bytes =
    let twice = length-encode_with lower_digits digest in
    ap if_decoded (sized (encode_lower digest) 32 (omega (arith, twice, long))
    ∙ decode_pairs-encode_with lower_digits IsDigits-lower_digits 0 digest bytes)

ending_line : (ending : Ending) → list_all is_in_line (ending_text ending) ≡ true
ending_line Finished = refl
ending_line Limit = refl
ending_line (Trapped traps.IllegalInstruction) = refl
ending_line (Trapped traps.FetchOutside) = refl
ending_line (Trapped traps.MisalignedTarget) = refl
ending_line (Trapped traps.LoadMisaligned) = refl
ending_line (Trapped traps.LoadOutside) = refl
ending_line (Trapped traps.StoreMisaligned) = refl
ending_line (Trapped traps.StoreOutside) = refl
ending_line (Trapped traps.Breakpoint) = refl

ending_back : (ending : Ending) → ending_in (ending_text ending) ≡ Some ending
unfolding ending_in trap_of
ending_back Finished = refl
ending_back Limit = refl
ending_back (Trapped traps.IllegalInstruction) = refl
ending_back (Trapped traps.FetchOutside) = refl
ending_back (Trapped traps.MisalignedTarget) = refl
ending_back (Trapped traps.LoadMisaligned) = refl
ending_back (Trapped traps.LoadOutside) = refl
ending_back (Trapped traps.StoreMisaligned) = refl
ending_back (Trapped traps.StoreOutside) = refl
ending_back (Trapped traps.Breakpoint) = refl

one_ending : (first second : Ending) → Some first ≡ Some second → first ≡ second
one_ending first second e = cc

pub endings_are_one : (first second : Ending) → same_ending first second ≡ true → first ≡ second
endings_are_one Finished Finished same = refl
endings_are_one Finished Limit same = absurd cc
endings_are_one Finished (Trapped other) same = absurd cc
endings_are_one Limit Finished same = absurd cc
endings_are_one Limit Limit same = refl
endings_are_one Limit (Trapped other) same = absurd cc
endings_are_one (Trapped first) Finished same = absurd cc
endings_are_one (Trapped first) Limit same = absurd cc
endings_are_one (Trapped first) (Trapped second) same =
    let number : trap_number first ≡ trap_number second = eqb-true (trap_number first) (trap_number second) same in
    one_ending (Trapped first) (Trapped second)
    (sym (ending_back (Trapped first)) ∙ ap (λ n. ending_in (codes "trap " ++ (48 + n) ∷ [])) number ∙ ending_back (Trapped second))

-- ---- all lines

-- what is read after each item
abbrev after_ending : (version logic image log : List ℕ) (harts limit : ℕ) → Ending × List ℕ → Result Contents RecordError
after_ending version logic image log harts limit ending = at_end (record {
  version = version;
  logic = logic;
  image = image;
  log = log;
  harts = harts;
  limit = limit;
  ending = ending.0;
}) ending.1

abbrev after_limit : (version logic image log : List ℕ) (harts : ℕ) → ℕ × List ℕ → Result Contents RecordError
after_limit version logic image log harts limit = ending_item 8 (codes "ending ") limit.1 >>= after_ending version logic image log harts limit.0

abbrev after_harts : (version logic image log : List ℕ) → ℕ × List ℕ → Result Contents RecordError
after_harts version logic image log harts = number_item most_limit 7 (codes "limit ") harts.1 >>= after_limit version logic image log harts.0

abbrev after_log : (version logic image : List ℕ) → List ℕ × List ℕ → Result Contents RecordError
after_log version logic image log = number_item 8 6 (codes "harts ") log.1 >>= after_harts version logic image log.0

abbrev after_image : (version logic : List ℕ) → List ℕ × List ℕ → Result Contents RecordError
after_image version logic image = digest_item 5 (codes "log ") image.1 >>= after_log version logic image.0

abbrev after_logic : (version : List ℕ) → List ℕ × List ℕ → Result Contents RecordError
after_logic version logic = digest_item 4 (codes "image ") logic.1 >>= after_image version logic.0

abbrev after_version : List ℕ × List ℕ → Result Contents RecordError
after_version version = word_item 3 (codes "logic ") version.1 >>= after_logic version.0

abbrev after_heading : List ℕ → Result Contents RecordError
after_heading behind = word_item 2 (codes "version ") behind >>= after_version

onward : {A B : Type 0} (r : Result A RecordError) (a : A) (next : A → Result B RecordError) (out : Result B RecordError)
    → r ≡ Ok a → next a ≡ out → (r >>= next) ≡ out
onward {A} {B} r a next out e rest = ap (λ (x : Result A RecordError). x >>= next) e ∙ rest

heading_back : (rest : List ℕ) → behind_heading ((codes "record 1" ++ 10 ∷ []) ++ rest) ≡ Ok rest
heading_back rest = ap headed (line_back (codes "record 1") rest refl)

pub read_back : (c : Contents) → IsRecord c → record_in (record_text c) ≡ Ok c
unfolding record_in
read_back c is =
    let end = (codes "ending " ++ ending_text c.ending ++ 10 ∷ []) ++ [] in
    let limit = (codes "limit " ++ decimal c.limit ++ 10 ∷ []) ++ end in
    let harts = (codes "harts " ++ decimal c.harts ++ 10 ∷ []) ++ limit in
    let log = (codes "log " ++ encode_lower c.log ++ 10 ∷ []) ++ harts in
    let image = (codes "image " ++ encode_lower c.image ++ 10 ∷ []) ++ log in
    let logic = (codes "logic " ++ c.logic ++ 10 ∷ []) ++ image in
    let version = (codes "version " ++ c.version ++ 10 ∷ []) ++ logic in
    let few_harts : c.harts ≤ most_limit = let few = is.few_harts in omega (arith, few) in
    onward (behind_heading ((codes "record 1" ++ 10 ∷ []) ++ version)) version after_heading _ (heading_back version)
    (onward (word_item 2 (codes "version ") version) (c.version, logic) after_version _
    (item_back faults.Word word_in 2 (codes "version ") c.version logic c.version refl (visible_line c.version is.version_visible)
    (word_back c.version is.version_some is.version_visible))
    (onward (word_item 3 (codes "logic ") logic) (c.logic, image) (after_logic c.version) _
    (item_back faults.Word word_in 3 (codes "logic ") c.logic image c.logic refl (visible_line c.logic is.logic_visible)
    (word_back c.logic is.logic_some is.logic_visible))
    (onward (digest_item 4 (codes "image ") image) (c.image, log) (after_image c.version c.logic) _
    (item_back faults.Digest digest_in 4 (codes "image ") (encode_lower c.image) log c.image refl (hex_line c.image)
    (digest_back c.image is.image_length is.image_bytes))
    (onward (digest_item 5 (codes "log ") log) (c.log, harts) (after_log c.version c.logic c.image) _
    (item_back faults.Digest digest_in 5 (codes "log ") (encode_lower c.log) harts c.log refl (hex_line c.log)
    (digest_back c.log is.log_length is.log_bytes))
    (onward (number_item 8 6 (codes "harts ") harts) (c.harts, limit) (after_harts c.version c.logic c.image c.log) _
    (item_back faults.Number (number_in 8) 6 (codes "harts ") (decimal c.harts) limit c.harts refl (number_line c.harts few_harts)
    (number_back 8 c.harts is.some_hart is.few_harts (omega arith)))
    (onward (number_item most_limit 7 (codes "limit ") limit) (c.limit, end) (after_limit c.version c.logic c.image c.log c.harts) _
    (item_back faults.Number (number_in most_limit) 7 (codes "limit ") (decimal c.limit) end c.limit refl (number_line c.limit is.few_turns)
    (number_back most_limit c.limit is.some_limit is.few_turns (omega arith)))
    (onward (ending_item 8 (codes "ending ") end) (c.ending, []) (after_ending c.version c.logic c.image c.log c.harts c.limit) _
    (item_back faults.Ending ending_in 8 (codes "ending ") (ending_text c.ending) [] c.ending refl (ending_line c.ending) (ending_back c.ending))
    refl)))))))
