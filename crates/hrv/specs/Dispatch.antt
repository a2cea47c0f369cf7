-- What the program does of what its words ask for: the engine of the command runs over devices at the places that the words name.
-- This project's own.
use Rattle.std.specs.Prelude.{◌≡◌, ◌⊎◌, ℕ, List, None, Some, codes, map, Result, Err}
use Rattle.std.specs.declared.alloc.Global.{Global}
use Rattle.hrv_engines.specs.declared.faults.Fault.{Fault}
use Rattle.hrv_engines.specs.declared.faults.Fault.TheVariants.{Memory}
use Rattle.hrv_engines.specs.Asm.{IsAssembly, IsRefusedAssembly}
use Rattle.hrv_engines.specs.Blame.{IsBlame, IsRefusedBlame}
use Rattle.hrv_engines.specs.Compile.{IsCompilation, IsRefusedCompilation}
use Rattle.hrv_engines.specs.Debug.{Talks}
use Rattle.hrv_engines.specs.Devices.{both, image_bytes_of, log_bytes_of, pieces_of, sink_of, text_of, texts_of}
use Rattle.hrv_engines.specs.Digests.{IsDigestText, IsRefusedDigest, digests_of}
use Rattle.hrv_engines.specs.Dis.{IsAddressedListing, IsListing, IsRefusedImage}
use Rattle.hrv_engines.specs.Drawing.{IsDrawing, IsRefusedDrawing}
use Rattle.hrv_engines.specs.Engine.{Performs, PerformsAs, Writes}
use Rattle.hrv_engines.specs.Logs.{IsLogMade, IsLogPrinted, IsRefusedLog, IsRefusedLogText}
use Rattle.hrv_engines.specs.Map.{IsMap, IsRefusedMap}
use Rattle.hrv_engines.specs.Profile.{IsProfiled, IsRefusedProfile}
use Rattle.hrv_engines.specs.Races.{AreRaces, AreRefusedRaces}
use Rattle.hrv_engines.specs.Recorded as recorded
use Rattle.hrv_engines.specs.Renew.{IsRenewal}
use Rattle.hrv_engines.specs.Replay.{IsRefusedReplay, IsReplay}
use Rattle.hrv_engines.specs.Run as run
use Rattle.hrv_engines.specs.Trace as trace
use Rattle.hrv_engines.specs.Drawn.{IsDrawnRun}
use Rattle.hrv_engines.specs.Verify.{Files, IsRefusedVerdict, IsVerdict}
use Rattle.hrv_engines.specs.declared.verify.Verdict.{Verdict}
use Rattle.hrv_engines.specs.declared.explain.TheConstants.{VERSION}
use Rattle.hrv_refusals.specs.Explanations.{explanation}
use Rattle.hrv_command_line.specs.CommandLine.{Asked, Replays, Debugs, Blames, Assembles, Lists, ListsAddresses, Renews, Draws, Compiles, Maps, Runs, Resumes}
use Rattle.hrv_command_line.specs.CommandLine.{Digests, Explains, FindsRaces, MakesLog, PrintsLog, Profiles, RunsDrawn, TellsVersion, Traces, Verifies}

-- a fact of some device at this place, by its state before and after
abbrev pub At : {S : Type 0} → (S → List ℕ) → List ℕ → (S → S → Type 0) → Type 0
At {S} place path P = (before : S) × (after : S) × (place before ≡ path) × P before after

-- a fact of some devices at these places
abbrev pub AtEach : {S : Type 0} → (S → List ℕ) → List (List ℕ) → (List S → List S → Type 0) → Type 0
AtEach {S} place paths P = (before : List S) × (after : List S) × (map place before ≡ paths) × P before after

-- memory ran out before there were any devices
abbrev pub OrMemory : {X : Type 0} → Result X Fault → Type 0 → Type 0
OrMemory result P = P ⊎ (result ≡ Err Memory)

-- standard input and output
abbrev pub dash : List ℕ
dash = codes "-"

-- the text of a verdict, whichever it is
abbrev pub IsSomeVerdict : Files → List ℕ → Type 0
IsSomeVerdict files text = (verdict : Verdict) × IsVerdict verdict files text

-- The engine of a command ran over files at the places that are asked for, read ones of type R and written ones of type W, and over
-- standard input (T) and output (P).
module _ {R W T P : Type 0}
    (read_at : R → List ℕ) (read_failed : R → ℕ) (gave : R → List ℕ → R → Type 0) (ended : R → Type 0)
    (written_at : W → List ℕ) (write_failed : W → ℕ) (stored : W → List ℕ → W → Type 0)
    (typed_at : T → List ℕ) (typing_failed : T → ℕ) (typed : T → List ℕ → T → Type 0) (typed_all : T → Type 0)
    (printed_at : P → List ℕ) (print_failed : P → ℕ) (printed : P → List ℕ → P → Type 0) where
  abbrev pub Does : {X : Type 0} → Global → Asked → Result X Fault → Type 0
  Does alloc (Assembles source image) result =
      At read_at source (λ s t. At written_at image (λ o p.
      Performs IsAssembly IsRefusedAssembly (text_of read_at read_failed gave ended s t) (sink_of written_at write_failed stored o p) result))
  Does alloc (Lists image) result =
      At read_at image (λ s t. At printed_at dash (λ o p.
      Performs IsListing IsRefusedImage (image_bytes_of read_at read_failed gave ended s t) (sink_of printed_at print_failed printed o p) result))
  Does alloc (ListsAddresses image) result =
      At read_at image (λ s t. At printed_at dash (λ o p.
      Performs IsAddressedListing IsRefusedImage (image_bytes_of read_at read_failed gave ended s t) (sink_of printed_at print_failed printed o p) result))
  Does alloc (Renews old new) result =
      At read_at old (λ s t. At written_at new (λ o p.
      Performs IsRenewal IsRefusedImage (image_bytes_of read_at read_failed gave ended s t) (sink_of written_at write_failed stored o p) result))
  Does alloc (Replays image log) result =
      At read_at image (λ s t. At read_at log (λ u v. At printed_at dash (λ o p.
      Performs IsReplay IsRefusedReplay
      (both (image_bytes_of read_at read_failed gave ended s t) (log_bytes_of read_at read_failed gave ended u v))
      (sink_of printed_at print_failed printed o p) result)))
  Does alloc (Debugs image log) result =
      At read_at image (λ s t. At read_at log (λ u v. At typed_at dash (λ k l. At printed_at dash (λ o p.
      Talks (both (image_bytes_of read_at read_failed gave ended s t) (log_bytes_of read_at read_failed gave ended u v))
      (pieces_of typed_at typing_failed typed k l) (typed_all l)
      (sink_of printed_at print_failed printed o p) result))))
  Does alloc (Blames image log x y address with_turns) result =
      At read_at image (λ s t. At read_at log (λ u v. At printed_at dash (λ o p.
      Performs (IsBlame (record { x = x; y = y; address = address; with_turns = with_turns }))
      (IsRefusedBlame (record { x = x; y = y; address = address; with_turns = with_turns }))
      (both (image_bytes_of read_at read_failed gave ended s t) (log_bytes_of read_at read_failed gave ended u v))
      (sink_of printed_at print_failed printed o p) result)))
  Does alloc (Profiles image log) result =
      At read_at image (λ s t. At read_at log (λ u v. At printed_at dash (λ o p.
      Performs IsProfiled IsRefusedProfile
      (both (image_bytes_of read_at read_failed gave ended s t) (log_bytes_of read_at read_failed gave ended u v))
      (sink_of printed_at print_failed printed o p) result)))
  Does alloc (Traces image log from to hart address) result =
      At read_at image (λ s t. At read_at log (λ u v. At printed_at dash (λ o p.
      trace.Traces (record { from = from; to = to; hart = hart; address = address })
      (both (image_bytes_of read_at read_failed gave ended s t) (log_bytes_of read_at read_failed gave ended u v))
      (sink_of printed_at print_failed printed o p) result)))
  Does alloc (FindsRaces image log but) result =
      At read_at image (λ s t. At read_at log (λ u v. At printed_at dash (λ o p.
      Performs (AreRaces but) (AreRefusedRaces but)
      (both (image_bytes_of read_at read_failed gave ended s t) (log_bytes_of read_at read_failed gave ended u v))
      (sink_of printed_at print_failed printed o p) result)))
  Does alloc (PrintsLog log) result =
      At read_at log (λ s t. At printed_at dash (λ o p.
      Performs IsLogPrinted IsRefusedLog (log_bytes_of read_at read_failed gave ended s t) (sink_of printed_at print_failed printed o p) result))
  Does alloc (MakesLog text log) result =
      At read_at text (λ s t. At written_at log (λ o p.
      Performs IsLogMade IsRefusedLogText (text_of read_at read_failed gave ended s t) (sink_of written_at write_failed stored o p) result))
  Does alloc (Draws algorithm inputs) result =
      OrMemory result (At read_at algorithm (λ s t. AtEach read_at inputs (λ u v. At printed_at dash (λ o p.
      Performs (IsDrawing alloc) (IsRefusedDrawing alloc)
      (both (text_of read_at read_failed gave ended s t) (texts_of read_at read_failed gave ended u v))
      (sink_of printed_at print_failed printed o p) result))))
  Does alloc (Compiles algorithm schedule image inputs) result =
      OrMemory result (At read_at algorithm (λ s t. At read_at schedule (λ u v. AtEach read_at inputs (λ x y. At written_at image (λ o p.
      Performs (IsCompilation alloc) (IsRefusedCompilation alloc)
      (both (both (text_of read_at read_failed gave ended s t) (text_of read_at read_failed gave ended u v)) (texts_of read_at read_failed
      gave ended x y))
      (sink_of written_at write_failed stored o p) result)))))
  Does alloc (Maps algorithm schedule) result =
      At read_at algorithm (λ s t. At read_at schedule (λ u v. At printed_at dash (λ o p.
      Performs (IsMap alloc) (IsRefusedMap alloc)
      (both (text_of read_at read_failed gave ended s t) (text_of read_at read_failed gave ended u v))
      (sink_of printed_at print_failed printed o p) result)))
  Does alloc (Runs image log None harts turns) result =
      At read_at image (λ s t. At written_at log (λ u v. At printed_at dash (λ o p.
      run.Runs (run.IsRun harts turns) IsRefusedImage (image_bytes_of read_at read_failed gave ended s t) (sink_of written_at write_failed stored u v)
      (sink_of printed_at print_failed printed o p) result)))
  Does alloc (Runs image log (Some kept) harts turns) result =
      At read_at image (λ s t. At written_at log (λ u v. At written_at kept (λ x y. At printed_at dash (λ o p.
      recorded.Records (recorded.IsRecordedRun harts turns) IsRefusedImage (image_bytes_of read_at read_failed gave ended s t)
      (sink_of written_at write_failed stored u v) (sink_of written_at write_failed stored x y)
      (sink_of printed_at print_failed printed o p) result))))
  Does alloc (Resumes image log None old turns) result =
      At read_at image (λ s t. At read_at old (λ x y. At written_at log (λ u v. At printed_at dash (λ o p.
      run.Runs (run.IsResumedRun turns) IsRefusedReplay
      (both (image_bytes_of read_at read_failed gave ended s t) (log_bytes_of read_at read_failed gave ended x y)) (sink_of written_at write_failed stored u v)
      (sink_of printed_at print_failed printed o p) result))))
  Does alloc (Resumes image log (Some kept) old turns) result =
      At read_at image (λ s t. At read_at old (λ a b. At written_at log (λ u v. At written_at kept (λ x y. At printed_at dash (λ o p.
      recorded.Records (recorded.IsRecordedResumedRun turns) IsRefusedReplay
      (both (image_bytes_of read_at read_failed gave ended s t) (log_bytes_of read_at read_failed gave ended a b))
      (sink_of written_at write_failed stored u v) (sink_of written_at write_failed stored x y)
      (sink_of printed_at print_failed printed o p) result)))))
  Does alloc (RunsDrawn image log None harts turns seed every) result =
      At read_at image (λ s t. At written_at log (λ u v. At printed_at dash (λ o p.
      run.Runs (IsDrawnRun harts (record { seed = seed; every = every; limit = turns })) IsRefusedImage (image_bytes_of read_at read_failed gave ended s t)
      (sink_of written_at write_failed stored u v) (sink_of printed_at print_failed printed o p) result)))
  Does alloc (RunsDrawn image log (Some kept) harts turns seed every) result =
      At read_at image (λ s t. At written_at log (λ u v. At written_at kept (λ x y. At printed_at dash (λ o p.
      recorded.Records (recorded.IsRecordedDrawnRun harts (record { seed = seed; every = every; limit = turns })) IsRefusedImage
      (image_bytes_of read_at read_failed gave ended s t)
      (sink_of written_at write_failed stored u v) (sink_of written_at write_failed stored x y)
      (sink_of printed_at print_failed printed o p) result))))
  Does alloc (Digests files) result =
      OrMemory result (AtEach read_at files (λ s t. At printed_at dash (λ o p.
      Performs (IsDigestText files) IsRefusedDigest (digests_of read_at read_failed gave ended s t) (sink_of printed_at print_failed printed o p) result)))
  Does alloc (Verifies kept image log) result =
      At read_at kept (λ x y. At read_at image (λ s t. At read_at log (λ u v. At printed_at dash (λ o p.
      Performs IsSomeVerdict IsRefusedVerdict
      (both (both (text_of read_at read_failed gave ended x y) (image_bytes_of read_at read_failed gave ended s t))
      (log_bytes_of read_at read_failed gave ended u v))
      (sink_of printed_at print_failed printed o p) result))))
  Does alloc (Explains family code) result =
      At printed_at dash (λ o p. Writes (sink_of printed_at print_failed printed o p) (explanation family code) result)
  Does alloc TellsVersion result =
      At printed_at dash (λ o p. Writes (sink_of printed_at print_failed printed o p) VERSION result)

  -- `verify` ran, and answered its verdict.
  abbrev pub Judges : Global → (kept image log : List ℕ) → Result Verdict Fault → Type 0
  Judges alloc kept image log result =
      At read_at kept (λ x y. At read_at image (λ s t. At read_at log (λ u v. At printed_at dash (λ o p.
      PerformsAs IsVerdict IsRefusedVerdict
      (both (both (text_of read_at read_failed gave ended x y) (image_bytes_of read_at read_failed gave ended s t))
      (log_bytes_of read_at read_failed gave ended u v))
      (sink_of printed_at print_failed printed o p) result))))
