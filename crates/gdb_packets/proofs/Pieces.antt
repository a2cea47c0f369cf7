-- Reading the bytes of a piece one after the other.
use Rattle.std.proofs.Common.{◌≡◌, ℕ, ◌+◌, ◌<◌, List, [], ◌∷◌, ◌++◌, length, drop, get_or, refl, ap, sym, ◌∙◌}
use Rattle.std.proofs.lemmas.List.{append-nil, at_drop_all, at_drop_more}
use Rattle.gdb_packets.specs.Packets.{Place, Reading, after, before, behind, reading, readings}

-- So much was found, and what is left is read as all is.
pub record Left (limit : ℕ) (first : Place) (bytes : List ℕ) (old : List Reading) (now : Place) (rest : List ℕ) (found : List Reading) : Type 0 where
  pub read : found ++ readings limit now rest ≡ old ++ readings limit first bytes
  pub place : behind limit now rest ≡ behind limit first bytes

-- with what is left as the last argument
abbrev pub IsLeft : ℕ → Place → List ℕ → List Reading → Place → List Reading → List ℕ → Type 0
IsLeft limit first bytes old now found rest = Left limit first bytes old now rest found

read_one : (limit : ℕ) (place : Place) (byte : ℕ) (bytes : List ℕ)
    → readings limit place (byte ∷ bytes) ≡ before (reading limit place byte) (readings limit (after limit place byte) bytes)
unfolding readings
read_one limit place byte bytes = refl

one_behind : (limit : ℕ) (place : Place) (byte : ℕ) (bytes : List ℕ) → behind limit place (byte ∷ bytes) ≡ behind limit (after limit place byte) bytes
unfolding behind
one_behind limit place byte bytes = refl

-- one more byte
pub takes_one : (limit : ℕ) (first : Place) (bytes : List ℕ) (old : List Reading) (now : Place) (byte : ℕ) (rest : List ℕ) (found more : List Reading)
    (next : Place)
    → next ≡ after limit now byte → ((others : List Reading) → more ++ others ≡ found ++ before (reading limit now byte) others)
    → Left limit first bytes old now (byte ∷ rest) found → Left limit first bytes old next rest more
takes_one limit first bytes old now byte rest found more next e pushed left =
    record {
      read =
          pushed (readings limit next rest)
          ∙ rw e (ap (λ (others : List Reading). found ++ others) (sym (read_one limit now byte rest)))
          ∙ left.read;
      place = rw e (sym (one_behind limit now byte rest)) ∙ left.place;
    }

-- no byte is left
pub none_read : (limit : ℕ) (first : Place) (bytes : List ℕ) (old : List Reading) (now : Place) (found : List Reading)
    → Left limit first bytes old now [] found → found ≡ old ++ readings limit first bytes
unfolding readings
none_read limit first bytes old now found left = sym (append-nil found) ∙ left.read

pub none_behind : (limit : ℕ) (first : Place) (bytes : List ℕ) (old : List Reading) (now : Place) (found : List Reading)
    → Left limit first bytes old now [] found → now ≡ behind limit first bytes
unfolding behind
none_behind limit first bytes old now found left = left.place
