-- What a call did with its devices, where what they give and take is a fact of their states and bytes.
-- This project's own.
use Rattle.std.specs.Prelude.{◌≡◌, ◌≢◌, ◌⊎◌, ℕ, ◌+◌, ◌*◌, ◌<◌, List, ◌++◌, length, slice_get, Some, Err}
use Rattle.std.specs.Str.{IsUtf8}
use Rattle.turn_log.specs.LogSpelling.{log_of}
use Rattle.turn_log.specs.declared.log_faults.LogFault.{LogFault}
use Rattle.turn_log.specs.declared.log_faults.LogFault.TheVariants.{Truncated}
use Rattle.memory.specs.Access.{most_bytes, most_words}
use Rattle.loader.specs.Spelling.{header_length}
use Rattle.loader.specs.declared.formats.Format.TheVariants.{Hrv2}

-- what a call did with sources
pub record Sources (I : Type 0) : Type 1 where
  -- they gave these inputs: all that they had, or of an image or a log a front that decides why it is refused
  pub gave : I → Type 0
  -- one with this path failed, and those before it gave their inputs
  pub failed : List ℕ → Type 0
  -- none failed
  pub well : Type 0
  -- they are as they were
  pub untouched : Type 0

-- what a call did with a sink
pub record Taken : Type 1 where
  -- it took these bytes
  pub took : List ℕ → Type 0
  -- it has this path, and failed
  pub failed : List ℕ → Type 0
  -- it didn't fail
  pub well : Type 0
  -- it is as it was
  pub untouched : Type 0

-- a source, by its state before the call and after it, that gave all that it had, or more than this many bytes of it
abbrev pub front_of : (most : ℕ) {S : Type 0} (place : S → List ℕ) (failures : S → ℕ) (gave : S → List ℕ → S → Type 0) (ended : S → Type 0) (before after : S)
    → Sources (List ℕ)
front_of most place failures gave ended before after = record {
  gave = λ bytes. gave before bytes after × (ended after ⊎ most < length bytes);
  failed = λ path. (path ≡ place before) × (failures before < failures after);
  well = failures after ≡ failures before;
  untouched = after ≡ before;
}

-- an image that loads has at most this many bytes
abbrev pub most_image_bytes : ℕ
most_image_bytes = header_length Hrv2 + 4 * most_words + most_bytes

-- A source of an image, which needn't be read further than it takes to refuse it: the law `long_images_are_refused_by_their_front` says that more
-- bytes than an image has are no image, and that whatever is after them, the fault is the same.
abbrev pub image_bytes_of : {S : Type 0} (place : S → List ℕ) (failures : S → ℕ) (gave : S → List ℕ → S → Type 0) (ended : S → Type 0) (before after : S)
    → Sources (List ℕ)
image_bytes_of = front_of most_image_bytes

-- Bytes are no log, for another reason than that they end too soon. The law `logs_are_refused_by_their_front` says that they have the same
-- fault whatever is after them.
abbrev pub IsNoLog : List ℕ → Type 0
IsNoLog bytes = (fault : LogFault) × (fault ≢ Truncated) × (log_of bytes ≡ Err fault)

-- a source of a log, which needn't be read further than it takes to refuse it
abbrev pub log_bytes_of : {S : Type 0} (place : S → List ℕ) (failures : S → ℕ) (gave : S → List ℕ → S → Type 0) (ended : S → Type 0) (before after : S)
    → Sources (List ℕ)
log_bytes_of place failures gave ended before after = record {
  gave = λ bytes. gave before bytes after × (ended after ⊎ IsNoLog bytes);
  failed = λ path. (path ≡ place before) × (failures before < failures after);
  well = failures after ≡ failures before;
  untouched = after ≡ before;
}

-- a source that isn't read to its end
abbrev pub pieces_of : {S : Type 0} (place : S → List ℕ) (failures : S → ℕ) (gave : S → List ℕ → S → Type 0) (before after : S) → Sources (List ℕ)
pieces_of place failures gave before after = record {
  gave = λ bytes. gave before bytes after;
  failed = λ path. (path ≡ place before) × (failures before < failures after);
  well = failures after ≡ failures before;
  untouched = after ≡ before;
}

-- no text begins with these bytes
abbrev pub BeginsNoText : List ℕ → Type 0
BeginsNoText bytes = (rest : List ℕ) → IsUtf8 (bytes ++ rest) → ⊥

-- a source gave a text, all that it had
abbrev pub GaveText : {S : Type 0} (gave : S → List ℕ → S → Type 0) (ended : S → Type 0) → S → List ℕ → S → Type 0
GaveText gave ended before text after = IsUtf8 text × gave before text after × ended after

-- what a source gave is no text: it has no more bytes, and those are none, or none begins with them
abbrev pub GaveNoText : {S : Type 0} (gave : S → List ℕ → S → Type 0) (ended : S → Type 0) → S → S → Type 0
GaveNoText gave ended before after = (bytes : List ℕ) × gave before bytes after × ((ended after × (IsUtf8 bytes → ⊥)) ⊎ BeginsNoText bytes)

-- a source of text, which fails also where its bytes are none
abbrev pub text_of : {S : Type 0} (place : S → List ℕ) (failures : S → ℕ) (gave : S → List ℕ → S → Type 0) (ended : S → Type 0) (before after : S)
    → Sources (List ℕ)
text_of place failures gave ended before after = record {
  gave = λ text. GaveText gave ended before text after;
  failed = λ path. (path ≡ place before) × ((failures before < failures after) ⊎ GaveNoText gave ended before after);
  well = failures after ≡ failures before;
  untouched = after ≡ before;
}

-- An algorithm that is accepted has at most this many bytes. The law `long_algorithms_are_refused_in_line_1` says that
-- a longer text is refused in line 1.
abbrev pub most_algorithm_bytes : ℕ
most_algorithm_bytes = 65536

-- A schedule that is accepted has at most this many lines.
abbrev pub most_schedule_lines : ℕ
most_schedule_lines = 256

-- A picture that is read has at most this many bytes: a heading of 32, and 12 for each pixel. The law `long_pictures_are_refused_by_their_front`
-- says so, and that of longer ones the fault depends on a front of more bytes alone.
abbrev pub most_picture_bytes : ℕ
most_picture_bytes = 32 + 12 * 1048576

-- ---- several sources of texts

-- each source gave its text, from the first states to the later ones
pub record GaveEach {S : Type 0} (gave : S → List ℕ → S → Type 0) (first : List S) (texts : List (List ℕ)) (later : List S) : Type 0 where
  pub as_many : length texts ≡ length first
  pub kept : length later ≡ length first
  pub each : (place : ℕ) (s t : S) → slice_get first place ≡ Some s → slice_get later place ≡ Some t
      → (text : List ℕ) × (slice_get texts place ≡ Some text) × gave s text t

-- The path is that of a source that failed, or that gave no text. All before it gave their texts.
pub record NamesFailed {S : Type 0} (path_of : S → List ℕ) (failed : S → ℕ) (gave : S → List ℕ → S → Type 0) (none : S → S
    → Type 0) (first later : List S) (path : List ℕ) : Type 0 where
  pub place : ℕ
  pub before : S
  pub after : S
  pub is_before : slice_get first place ≡ Some before
  pub is_after : slice_get later place ≡ Some after
  pub is_path : path ≡ path_of before
  pub failed_there : (failed before < failed after) ⊎ none before after
  pub earlier : (sooner : ℕ) (s t : S) → sooner < place → slice_get first sooner ≡ Some s → slice_get later sooner ≡ Some t
      → (text : List ℕ) × gave s text t

-- none of them failed
abbrev pub NoneFailed : {S : Type 0} (failures : S → ℕ) (first later : List S) → Type 0
NoneFailed {S} failures first later =
    (place : ℕ) (s t : S) → slice_get first place ≡ Some s → slice_get later place ≡ Some t → failures t ≡ failures s

-- sources of texts, each all that its source had
abbrev pub texts_of : {S : Type 0} (place : S → List ℕ) (failures : S → ℕ) (gave : S → List ℕ → S → Type 0) (ended : S → Type 0) (before after : List S)
    → Sources (List (List ℕ))
texts_of place failures gave ended before after = record {
  gave = λ texts. GaveEach (GaveText gave ended) before texts after;
  failed = NamesFailed place failures (GaveText gave ended) (GaveNoText gave ended) before after;
  well = NoneFailed failures before after;
  untouched = after ≡ before;
}

-- sources that are read one after the other: the second ones are untouched unless the first ones gave their inputs
abbrev pub both : {I J : Type 0} → Sources I → Sources J → Sources (I × J)
both {I} first second = record {
  gave = λ inputs. first.gave inputs.0 × second.gave inputs.1;
  failed = λ path. (first.failed path × second.untouched) ⊎ (((input : I) × first.gave input) × first.well × second.failed path);
  well = first.well × second.well;
  untouched = first.untouched × second.untouched;
}

-- a sink, by its state before the call and after it
abbrev pub sink_of : {S : Type 0} (place : S → List ℕ) (failures : S → ℕ) (took : S → List ℕ → S → Type 0) (before after : S) → Taken
sink_of place failures took before after = record {
  took = λ bytes. took before bytes after;
  failed = λ path. (path ≡ place before) × (failures before < failures after);
  well = failures after ≡ failures before;
  untouched = after ≡ before;
}
