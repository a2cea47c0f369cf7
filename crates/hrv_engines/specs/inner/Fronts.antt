-- Texts that are read to their end, of which a front is kept. This project's own.
use Rattle.std.specs.Prelude.{◌≡◌, ◌≢◌, ◌⊎◌, ◌==◌, ◌||◌, ℕ, ◌<◌, ◌≤◌, Bool, true, false, List, [], ◌++◌, length, take}
use Rattle.std.specs.List.{prefix_len}
use Rattle.std.specs.Str.{IsUtf8}
use Rattle.line_text.specs.Lines.{continues_name, is_blank, lines_of}
use Rattle.hrv_engines.specs.declared.texts.Extent.{Extent}
use Rattle.hrv_engines.specs.declared.texts.Extent.TheVariants.{All, Bytes, FirstLine, Lines}
use Rattle.hrv_engines.specs.declared.texts.KeptFront.{KeptFront}
use Rattle.hrv_engines.specs.declared.texts.Reading.{Reading}
use Rattle.hrv_engines.specs.inner.LineCounts.{line_feeds}
use Rattle.hrv_engines.specs.Devices.{BeginsNoText, GaveEach, GaveNoText, GaveText, NamesFailed, NoneFailed, Sources, most_picture_bytes}

-- this many bytes are the longest front that is a text
pub record IsLongestText (bytes : List ℕ) (count : ℕ) : Type 0 where
  pub within : count ≤ length bytes
  pub front : IsUtf8 (take count bytes)
  pub longest : (more : ℕ) → count < more → more ≤ length bytes → IsUtf8 (take more bytes) → ⊥

-- one of the marks ( ) , + - * / % = < > !, of which those of an algorithm are made
abbrev pub is_mark : ℕ → Bool
is_mark byte =
    byte == 40 || byte == 41 || byte == 44 || byte == 43 || byte == 45 || byte == 42 || byte == 47 || byte == 37 || byte == 61 || byte == 60 || byte == 62
    || byte == 33

-- a blank, a byte of a word or of a number, or a mark
unfoldable pub is_of_tokens : ℕ → Bool
is_of_tokens byte = is_blank byte || continues_name byte || is_mark byte

-- the first line of an algorithm ends in these bytes, or what it says does
abbrev pub IsLineTold : List ℕ → Type 0
IsLineTold text = prefix_len is_of_tokens text < length text

-- The front of a text decides what is to be said of it.
abbrev pub Decides : Extent → List ℕ → Type 0
Decides All text = ⊥
Decides (Bytes most) text = most < length text
Decides (FirstLine most) text = (most < length text) × IsLineTold text
Decides (Lines most) text = most < length (lines_of text)

-- these bytes are kept of a text: all of it, or a front that decides
abbrev pub KeepsOf : Extent → List ℕ → List ℕ → Type 0
KeepsOf extent kept text = (kept ≡ text) ⊎ (Decides extent kept × ((rest : List ℕ) × (kept ++ rest ≡ text)))

abbrev pub KeepsIf : Bool → KeptFront → List ℕ → Type 0
KeepsIf false kept text = kept.bytes.items ≡ text
KeepsIf true kept text = Decides kept.extent kept.bytes.items × ((rest : List ℕ) × (kept.bytes.items ++ rest ≡ text))

-- the front of this text is kept
pub record Keeps (kept : KeptFront) (text : List ℕ) : Type 0 where
  pub keeps : KeepsIf kept.is_enough kept text
  pub is_text : IsUtf8 kept.bytes.items
  pub told : kept.is_line_told ≡ true → IsLineTold kept.bytes.items
  pub feeds : kept.line_feeds ≡ line_feeds kept.bytes.items

-- All these bytes were looked at. They may be a text, or begin one.
pub record IsReadSoFar (reading : Reading) (all : List ℕ) : Type 0 where
  pub passed : List ℕ
  pub parts : passed ++ reading.unended.items ≡ all
  pub is_text : IsUtf8 passed
  pub kept : Keeps reading.kept passed
  pub few : length reading.unended.items ≤ 3
  pub unended : reading.unended.items ≢ [] → IsUtf8 reading.unended.items → ⊥

-- whether they may
abbrev pub TookPiece : Bool → Reading → List ℕ → Type 0
TookPiece true reading all = IsReadSoFar reading all
TookPiece false reading all = BeginsNoText all

-- a source gave a text, all that it had, of which this is kept
abbrev pub GaveKept : Extent → {S : Type 0} (gave : S → List ℕ → S → Type 0) (ended : S → Type 0) → S → List ℕ → S → Type 0
GaveKept extent gave ended before kept after = (text : List ℕ) × KeepsOf extent kept text × IsUtf8 text × gave before text after × ended after

-- a source of a text, of which a front is kept
abbrev pub kept_text_of : Extent → {S : Type 0} (place : S → List ℕ) (failures : S → ℕ) (gave : S → List ℕ → S → Type 0) (ended : S
    → Type 0) (before after : S)
    → Sources (List ℕ)
kept_text_of extent place failures gave ended before after = record {
  gave = λ kept. GaveKept extent gave ended before kept after;
  failed = λ path. (path ≡ place before) × ((failures before < failures after) ⊎ GaveNoText gave ended before after);
  well = failures after ≡ failures before;
  untouched = after ≡ before;
}

-- sources of pictures, each of which gave a text, all that it had, of which a front is kept
abbrev pub kept_texts_of : {S : Type 0} (place : S → List ℕ) (failures : S → ℕ) (gave : S → List ℕ → S → Type 0) (ended : S
    → Type 0) (before after : List S)
    → Sources (List (List ℕ))
kept_texts_of place failures gave ended before after = record {
  gave = λ kept. GaveEach (GaveKept (Bytes most_picture_bytes) gave ended) before kept after;
  failed = NamesFailed place failures (GaveText gave ended) (GaveNoText gave ended) before after;
  well = NoneFailed failures before after;
  untouched = after ≡ before;
}
