use Rattle.std.proofs.Common.{◌≡◌, ◌++◌, take}
use Rattle.std.specs.String.{string_bytes}
use Rattle.hrv_engines.specs.Dump.{hex_of}
use Rattle.hrv_engines.proofs.dumps.push_hex.Given as goal

abbrev pub invariant-loop-byte : goal.invariant-loop-byte
invariant-loop-byte l = string_bytes l.text ≡ string_bytes l.fn.text ++ hex_of (take l.byte-index l.bytes)
