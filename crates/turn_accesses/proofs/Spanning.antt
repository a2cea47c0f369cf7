-- Between which bytes numbers lie.
use Rattle.std.proofs.Common.{◌≡◌, ◌∙◌, ◌+◌, ◌<◌, ◌≤◌, ◌||◌, ◌&&◌, ◌==◌, ◌⊎◌, inl, inr, ℕ, Bool, false, true, refl, sym, ap, subst, arith, List, [], ◌∷◌, ◌++◌, append-nil, Option, Some, None}
use Rattle.std.specs.Prelude.{if◌then◌else◌, nat_lt}
use Rattle.std.proofs.lemmas.Bool.{lt-ltb}
use Rattle.std.proofs.lemmas.Bool.Decides.{nat_tests}
use Rattle.memory.specs.Access.{Access, access_at, bytes_in, places_of, read_by, touched, written_by}
use Rattle.rv_insn.specs.declared.vector_operations.ElementWidth.{ElementWidth}
use Rattle.rv_insn.specs.declared.vector_operations.ElementWidth.TheVariants as widths
use Rattle.hart_core.specs.VectorRows.{accesses_at, size_of}
use Rattle.multi_hart.specs.Run.{is_in}
use Rattle.rv_insn.specs.declared.outcomes.Trap.{Trap}
use Rattle.turn_accesses.specs.Accesses.{Covers, kind_in, meet}
use Rattle.turn_accesses.specs.inner.Fitting.{if_fits}
use Rattle.turn_accesses.specs.declared.values.AccessKind.{AccessKind}
use Rattle.turn_accesses.specs.declared.values.AccessKind.TheVariants.{Adds, Loads, Stores}
use Rattle.turn_accesses.specs.declared.spans.Span.{Span}

pub in_both : (place : ℕ) (xs ys : List ℕ) → is_in place (xs ++ ys) ≡ is_in place xs || is_in place ys
in_both place [] ys = refl
in_both place (x ∷ xs) ys = one_more (place == x) (is_in place (xs ++ ys)) (is_in place xs) (is_in place ys) (in_both place xs ys)
  where
    one_more : (b m l r : Bool) → m ≡ l || r → (if b then true else m) ≡ (if b then true else l) || r
    one_more true m l r e = refl
    one_more false m l r e = e

-- the bytes of one number
pub in_number : (place address : ℕ) (width : ElementWidth) → is_in place (places_of (access_at (size_of width) address)) ≡ true
    → (address ≤ place) × (place < address + bytes_in (size_of width))
in_number place address widths.Bits8 is = grind (arith, nat_tests)
in_number place address widths.Bits16 is = grind (arith, nat_tests)
in_number place address widths.Bits32 is = grind (arith, nat_tests)

-- bytes that are touched by what is left, or lie between two bounds
abbrev pub Around : List ℕ → List ℕ → ElementWidth → ℕ → ℕ → Type 0
Around all rest width first last =
    (place : ℕ) → is_in place (touched (accesses_at width all)) ≡ true
    → (is_in place (touched (accesses_at width rest)) ≡ true) ⊎ ((first ≤ place) × (place < last + bytes_in (size_of width)))

pub around_more : (all rest : List ℕ) (address : ℕ) (width : ElementWidth) (first last first' last' : ℕ) → Around all (address ∷ rest) width first last
    → first' ≤ first → first' ≤ address → last ≤ last' → address ≤ last' → Around all rest width first' last'
around_more all rest address width first last first' last' known low own_low high own_high = λ place is.
    elim (known place is) [
      | inl here ↦ split place (is_in place (places_of (access_at (size_of width) address))) refl
          (sym (in_both place (places_of (access_at (size_of width) address)) (touched (accesses_at width rest))) ∙ here)
      | inr lies ↦ (let from = lies.0 in let to = lies.1 in inr (omega (arith, from, low), omega (arith, to, high)))
    ]
  where
    split : (place : ℕ) (b : Bool) → is_in place (places_of (access_at (size_of width) address)) ≡ b
        → is_in place (places_of (access_at (size_of width) address)) || is_in place (touched (accesses_at width rest)) ≡ true
        → (is_in place (touched (accesses_at width rest)) ≡ true) ⊎ ((first' ≤ place) × (place < last' + bytes_in (size_of width)))
    split place true here either =
        let own = in_number place address width here in
        let from = own.0 in
        let to = own.1 in
        inr (omega (arith, from, own_low), omega (arith, to, own_high))
    split place false here either = inl (sym (ap (λ b. b || is_in place (touched (accesses_at width rest))) here) ∙ either)

-- ---- two spans

pub not_met : (one other : Span) → meet one other ≡ false → (place : ℕ) → one.first ≤ place → place < one.end → other.first ≤ place → place < other.end
    → (one.stores ≡ false) × (other.stores ≡ false)
not_met one other apart place from to from' to' =
    let left : nat_lt one.first other.end ≡ true = lt-ltb one.first other.end (omega (arith, from, to')) in
    let right : nat_lt other.first one.end ≡ true = lt-ltb other.first one.end (omega (arith, from', to)) in
    neither one.stores other.stores (sym (ap (λ b. b && nat_lt other.first one.end && (one.stores || other.stores)) left
    ∙ ap (λ b. b && (one.stores || other.stores)) right) ∙ apart)
  where
    neither : (a b : Bool) → a || b ≡ false → (a ≡ false) × (b ≡ false)
    neither true b e = absurd cc
    neither false b e = (refl, e)

-- what one turn writes, another one whose span is apart doesn't touch
pub apart_spans : (one other : Span) (read written read' written' : List ℕ) → Covers one read written → Covers other read' written' → meet one other ≡ false
    → (place : ℕ) → is_in place written ≡ true → is_in place read' || is_in place written' ≡ false
apart_spans one other read written read' written' covers covers' apart place is =
    go (is_in place read') (is_in place written') refl refl
  where
    silent : (one.first ≤ place) × (place < one.end) → (other.first ≤ place) × (place < other.end) → true ≡ false
    silent own its =
        let nothing = covers.silent (not_met one other apart place own.0 own.1 its.0 its.1).0 in
        sym is ∙ ap (is_in place) nothing

    go : (a b : Bool) → is_in place read' ≡ a → is_in place written' ≡ b → a || b ≡ false
    go true b in_read in_written = silent (covers.written place is) (covers'.read place in_read)
    go false true in_read in_written = silent (covers.written place is) (covers'.written place in_written)
    go false false in_read in_written = refl

pub meet_swapped : (one other : Span) → meet one other ≡ false → meet other one ≡ false
meet_swapped one other apart =
    swapped (nat_lt one.first other.end) (nat_lt other.first one.end) one.stores other.stores apart
  where
    swapped : (a b c d : Bool) → a && b && (c || d) ≡ false → b && a && (d || c) ≡ false
    swapped false false c d e = refl
    swapped false true c d e = refl
    swapped true false c d e = refl
    swapped true true false false e = refl
    swapped true true false true e = absurd cc
    swapped true true true d e = absurd cc

-- ---- the span of accesses of one kind

read_among : (kind : AccessKind) (accesses : List Access) (place : ℕ) → is_in place (touched (read_by (kind_in kind) accesses)) ≡ true
    → is_in place (touched accesses) ≡ true
read_among Loads accesses place is = is
read_among Stores accesses place is = absurd cc
read_among Adds accesses place is = is

written_among : (kind : AccessKind) (accesses : List Access) (place : ℕ) → is_in place (touched (written_by (kind_in kind) accesses)) ≡ true
    → is_in place (touched accesses) ≡ true
written_among Loads accesses place is = absurd cc
written_among Stores accesses place is = is
written_among Adds accesses place is = is

pub covers_kind : (span : Span) (kind : AccessKind) (accesses : List Access)
    → ((place : ℕ) → is_in place (touched accesses) ≡ true → (span.first ≤ place) × (place < span.end)) → (span.stores ≡ false → kind ≡ Loads)
    → Covers span (touched (read_by (kind_in kind) accesses)) (touched (written_by (kind_in kind) accesses))
covers_kind span kind accesses lie loads = record {
  read = λ place is. lie place (read_among kind accesses place is);
  written = λ place is. lie place (written_among kind accesses place is);
  silent = λ quiet. ap (λ k. touched (written_by (kind_in k) accesses)) (loads quiet);
}

pub covers_nothing : (span : Span) → Covers span [] []
covers_nothing span = record {
  read = λ place is. absurd cc;
  written = λ place is. absurd cc;
  silent = λ quiet. refl;
}

pub in_one : (place address : ℕ) (width : ElementWidth) → is_in place (touched (accesses_at width (address ∷ []))) ≡ true
    → (address ≤ place) × (place < address + bytes_in (size_of width))
in_one place address width is =
    in_number place address width (sym (ap (is_in place) (append-nil (places_of (access_at (size_of width) address)))) ∙ is)

pub covers_if_fits : (span : Span) (f : Option Trap) (read written : List ℕ) → Covers span read written → Covers span (if_fits f read) (if_fits f written)
covers_if_fits span None read written covers = covers
covers_if_fits span (Some trap) read written covers = covers_nothing span

-- the same bytes under other names
pub covers_same : (span : Span) (read written read' written' : List ℕ) → read' ≡ read → written' ≡ written → Covers span read written
    → Covers span read' written'
covers_same span read written read' written' reads_same writes_same covers =
    subst (λ (r : List ℕ). Covers span r written') (sym reads_same) (subst (λ (w : List ℕ). Covers span read w) (sym writes_same) covers)
