-- A map from names, seen as a list of pairs in the order in which they were added.
use Rattle.std.proofs.Common.{◌≡◌, ℕ, ◌+◌, ◌<◌, nat_lt, Bool, true, false, cond, List, [], ◌∷◌, ◌++◌, Option, Some, None, Vec, length, refl, ap, sym, subst}
use Rattle.std.proofs.Common.{◌∙◌, arith}
use Rattle.std.proofs.lemmas.Bool.{le-ltb, lt-ltb, true≢false}
use Rattle.std.proofs.lemmas.Cmp.{nat_list_eq_equiv}
use Rattle.std.proofs.lemmas.List.{map-append}
use Rattle.std.proofs.lemmas.Map.Keys.{sorted_head, sorted_tail}
use Rattle.std.specs.BTreeMap.{insert_entry, is_at}
use Rattle.std.specs.Cmp.Lexicographic.{slice_cmp, texts_ties}
use Rattle.std.specs.List.{AllByRecursion}
use Rattle.std.specs.List.Sorted.{IsStrictlySortedBy}
use Rattle.std.specs.Map.{keys_of, lookup as find}
use Rattle.std.specs.Ordering.{nat_cmp, is_eq, match_ordering}
use Rattle.std.specs.Prelude.{option_map}
use Rattle.std.specs.Str.{bytes_eq}
use Rattle.std.specs.declared.alloc.Global.{Global}
use Rattle.std.specs.declared.cmp.Ordering.{Ordering}
use Rattle.std.specs.declared.cmp.Ordering.TheVariants.{Less, Equal, Greater}
use Rattle.assembler.specs.declared.labels.Label.{Label}
use Rattle.assembler.specs.declared.labels.Numbered.{Numbered}
use Rattle.assembler.specs.Names.{label_named, Named}
use Rattle.assembler.specs.inner.Numbering.{among, AreBelow, AreNumbered, Entries, in_order, order, pairs_of, Places, without_numbers}

abbrev AreLess : ℕ → Places → Type 0
AreLess number places = AllByRecursion (λ place. place.0 < number) places

-- ---- a place among others

-- the greatest number is last
last : (number : ℕ) (named : Named) (places : Places) → AreLess number places → among number named places ≡ places ++ (number, named) ∷ []
last number named [] less = refl
last number named (other ∷ others) less =
    let passed : nat_lt number other.0 ≡ false = le-ltb number other.0 (omega (arith, less.0)) in
    rw (passed, last number named others less.1) refl

-- a greater number stays last
passes : (number greater : ℕ) (named x : Named) (places : Places) → number < greater
    → among number named (places ++ (greater, x) ∷ []) ≡ among number named places ++ (greater, x) ∷ []
passes number greater named x [] less = rw (lt-ltb number greater less) refl
passes number greater named x (other ∷ others) less = by (nat_lt number other.0) (passes number greater named x others less)
  where
    by : (first : Bool) → among number named (others ++ (greater, x) ∷ []) ≡ among number named others ++ (greater, x) ∷ []
        → cond first ((number, named) ∷ other ∷ (others ++ (greater, x) ∷ [])) (other ∷ among number named (others ++ (greater, x) ∷ []))
        ≡ cond first ((number, named) ∷ other ∷ others) (other ∷ among number named others) ++ (greater, x) ∷ []
    by true later = refl
    by false later = ap (λ (places : Places). other ∷ places) later

less_among : (count number : ℕ) (named : Named) (places : Places) → number < count → AreLess count places → AreLess count (among number named places)
less_among count number named [] below less = (below, tt)
less_among count number named (other ∷ others) below less = by (nat_lt number other.0) (less_among count number named others below less.1)
  where
    by : (first : Bool) → AreLess count (among number named others)
        → AreLess count (cond first ((number, named) ∷ other ∷ others) (other ∷ among number named others))
    by true later = (below, less)
    by false later = (less.0, later)

less_in_order : (count : ℕ) (entries : Entries) → AreBelow count entries → AreLess count (in_order entries)
less_in_order count [] below = tt
less_in_order count (entry ∷ entries) below =
    less_among count entry.1.number (entry.0.items, entry.1.label) (in_order entries) below.0 (less_in_order count entries below.1)

-- ---- one more entry

abbrev stored : (name : Vec ℕ Global) → Entries → Option Numbered
stored name entries = find (is_at (order name)) entries

-- a name that is not there is appended
added : (name : Vec ℕ Global) (new : Numbered) (entries : Entries) → AreBelow new.number entries → stored name entries ≡ None
    → in_order (insert_entry order entries name new) ≡ in_order entries ++ (new.number, (name.items, new.label)) ∷ []
added name new [] below none = refl
added name new (entry ∷ entries) below none = by (order name entry.0) none (added name new entries below.1)
  where
    place : Named
    place = (name.items, new.label)

    own : Named
    own = (entry.0.items, entry.1.label)

    by : (to_entry : Ordering) → cond (is_eq to_entry) (Some entry.1) (stored name entries) ≡ None
        → (stored name entries ≡ None → in_order (insert_entry order entries name new) ≡ in_order entries ++ (new.number, place) ∷ [])
        → in_order (match_ordering to_entry ((name, new) ∷ entry ∷ entries) ((entry.0, new) ∷ entries) (entry ∷ insert_entry order entries name new))
        ≡ in_order (entry ∷ entries) ++ (new.number, place) ∷ []
    by Less none later = last new.number place (in_order (entry ∷ entries)) (less_in_order new.number (entry ∷ entries) below)
    by Equal none later = cc
    by Greater none later = ap (among entry.1.number own) (later none) ∙ passes entry.1.number new.number own place (in_order entries) below.0

more : (count : ℕ) (entries : Entries) → AreBelow count entries → AreBelow (count + 1) entries
more count [] below = tt
more count (entry ∷ entries) below = (omega (arith, below.0), more count entries below.1)

-- and there is room below one number more
still_below : (name : Vec ℕ Global) (new : Numbered) (entries : Entries) → AreBelow new.number entries
    → AreBelow (new.number + 1) (insert_entry order entries name new)
still_below name new [] below = (omega arith, tt)
still_below name new (entry ∷ entries) below = by (order name entry.0) (still_below name new entries below.1)
  where
    by : (to_entry : Ordering) → AreBelow (new.number + 1) (insert_entry order entries name new)
        → AreBelow (new.number + 1) (match_ordering to_entry ((name, new) ∷ entry ∷ entries) ((entry.0, new) ∷ entries) (entry ∷ insert_entry order entries name
        new))
    by Less later = (omega arith, more new.number (entry ∷ entries) below)
    by Equal later = (omega arith, more new.number entries below.1)
    by Greater later = (omega (arith, below.0), later)

one_more : (name : Vec ℕ Global) (new : Numbered) (entries : Entries) → stored name entries ≡ None
    → length (insert_entry order entries name new) ≡ length entries + 1
one_more name new [] none = refl
one_more name new (entry ∷ entries) none = by (order name entry.0) none (one_more name new entries)
  where
    by : (to_entry : Ordering) → cond (is_eq to_entry) (Some entry.1) (stored name entries) ≡ None
        → (stored name entries ≡ None → length (insert_entry order entries name new) ≡ length entries + 1)
        → length (match_ordering to_entry ((name, new) ∷ entry ∷ entries) ((entry.0, new) ∷ entries) (entry ∷ insert_entry order entries name new))
        ≡ length (entry ∷ entries) + 1
    by Less none later = omega arith
    by Equal none later = cc
    by Greater none later = omega (arith, later none)

-- ---- what a name finds

abbrev pub label : Numbered → Label
label numbered = numbered.label

-- the name of one entry at most
abbrev found_in : Places → List ℕ → Option Label
found_in places name = label_named (without_numbers places) name

either_first : (a b : Bool) (x y rest : Option Label) → (a ≡ true → b ≡ false) → cond a x (cond b y rest) ≡ cond b y (cond a x rest)
either_first true true x y rest apart = absurd (true≢false (apart refl))
either_first true false x y rest apart = refl
either_first false b x y rest apart = refl

-- among others, whichever is first
met : (number : ℕ) (named : Named) (places : Places) (name : List ℕ) → found_in places named.0 ≡ None
    → found_in (among number named places) name ≡ cond (bytes_eq name named.0) (Some named.1) (found_in places name)
met number named [] name none = refl
met number named (other ∷ others) name none = by (bytes_eq named.0 other.1.0) refl none (met number named others name)
  where
    placed : (first : Bool) → found_in (among number named others) name ≡ cond (bytes_eq name named.0) (Some named.1) (found_in others name)
        → bytes_eq named.0 other.1.0 ≡ false
        → found_in (cond first ((number, named) ∷ other ∷ others) (other ∷ among number named others)) name
        ≡ cond (bytes_eq name named.0) (Some named.1) (found_in (other ∷ others) name)
    placed true later apart = refl
    placed false later apart =
        ap (cond (bytes_eq name other.1.0) (Some other.1.1)) later
        ∙ either_first (bytes_eq name other.1.0) (bytes_eq name named.0) (Some other.1.1) (Some named.1) (found_in others name)
        (λ is_other. nat_list_eq_equiv.symm name named.0 ∙ nat_list_eq_equiv.symm named.0 name ∙ nat_list_eq_equiv.congr name other.1.0 named.0 is_other
        ∙ nat_list_eq_equiv.symm other.1.0 named.0 ∙ apart)

    by : (same : Bool) → bytes_eq named.0 other.1.0 ≡ same → cond same (Some other.1.1) (found_in others named.0) ≡ None
        → (found_in others named.0 ≡ None → found_in (among number named others) name ≡ cond (bytes_eq name named.0) (Some named.1) (found_in others name))
        → found_in (among number named (other ∷ others)) name ≡ cond (bytes_eq name named.0) (Some named.1) (found_in (other ∷ others) name)
    by true is none later = cc
    by false is none later = placed (nat_lt number other.0) (later none) is

-- a name below all others is not among them
gone : (name : Vec ℕ Global) (entries : Entries) → AllByRecursion (λ other. order name other ≡ Less) (keys_of entries) → stored name entries ≡ None
gone name [] below = refl
gone name (entry ∷ entries) below = rw (below.0, gone name entries below.1) refl

pub found : (name : List ℕ) (entries : Entries) → IsStrictlySortedBy order (keys_of entries)
    → option_map label (find (is_at (λ key. slice_cmp nat_cmp name key.items)) entries) ≡ label_named (pairs_of entries) name
found name [] sorted = refl
found name (entry ∷ entries) sorted =
    let behind = sorted_tail order entry.0 (keys_of entries) sorted in
    let none : label_named (pairs_of entries) entry.0.items ≡ None =
    sym (found entry.0.items entries behind) ∙ ap (option_map label) (gone entry.0 entries (sorted_head order entry.0 (keys_of entries) sorted)) in
    by (is_eq (slice_cmp nat_cmp name entry.0.items)) (found name entries behind)
    ∙ ap (λ same. cond same (Some entry.1.label) (label_named (pairs_of entries) name)) (sym (texts_ties name entry.0.items))
    ∙ sym (met entry.1.number (entry.0.items, entry.1.label) (in_order entries) name none)
  where
    by : (same : Bool) → option_map label (find (is_at (λ key. slice_cmp nat_cmp name key.items)) entries) ≡ label_named (pairs_of entries) name
        → option_map label (cond same (Some entry.1) (find (is_at (λ key. slice_cmp nat_cmp name key.items)) entries))
        ≡ cond same (Some entry.1.label) (label_named (pairs_of entries) name)
    by true later = refl
    by false later = later

-- where contracts see no name, there is none
absent : (name : Vec ℕ Global) (entries : Entries) → IsStrictlySortedBy order (keys_of entries) → label_named (pairs_of entries) name.items ≡ None
    → stored name entries ≡ None
absent name entries sorted none = by (stored name entries) (found name.items entries sorted ∙ none)
  where
    by : (was : Option Numbered) → option_map label was ≡ None → was ≡ None
    by None is = refl
    by (Some numbered) is = cc

-- ---- a map after the entry of a name that it had not

module _ (name : Vec ℕ Global) (new : Numbered) (old next : Entries) (numbered : AreNumbered old) (is_number : new.number ≡ length old)
    (unknown : label_named (pairs_of old) name.items ≡ None) (is_next : next ≡ insert_entry order old name new) where
  below : AreBelow new.number old
  below = subst (λ count. AreBelow count old) (sym is_number) numbered.1

  none : stored name old ≡ None
  none = absent name old numbered.0 unknown

  pub keeps_numbers : IsStrictlySortedBy order (keys_of next) → AreNumbered next
  keeps_numbers sorted =
      let count : length next ≡ new.number + 1 = ap (λ (entries : Entries). length entries) is_next ∙ one_more name new old none
      ∙ ap (λ n. n + 1) (sym is_number) in
      let all : AreBelow (new.number + 1) next = subst (λ entries. AreBelow (new.number + 1) entries) (sym is_next) (still_below name new old below) in
      (sorted, subst (λ n. AreBelow n next) (sym count) all)

  pub appends_name : pairs_of next ≡ pairs_of old ++ (name.items, new.label) ∷ []
  appends_name = ap pairs_of is_next ∙ ap without_numbers (added name new old below none) ∙ map-append (λ place. place.1) (in_order old) _
