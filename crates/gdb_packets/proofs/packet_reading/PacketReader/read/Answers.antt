use Rattle.std.proofs.Common.{◌≡◌, ◌∙◌, ◌+◌, refl, sym, arith, subst, map}
use Rattle.std.proofs.lemmas.List.{at_drop_all, at_drop_more}
use Rattle.std.proofs.lemmas.Grind.{common_steps}
use Rattle.gdb_packets.specs.Packets.{place_of, view}
use Rattle.gdb_packets.proofs.Pieces.{IsLeft, takes_one, none_read, none_behind}
use Rattle.gdb_packets.proofs.packet_reading.PacketReader.read.Goals as goal

pub loop-byte-init : goal.loop-byte-init
loop-byte-init c = record { limit = refl; left = record { read = refl; place = refl } }

pub loop-byte-preserved : goal.loop-byte-preserved
loop-byte-preserved c =
    let at = c.loop-byte in
    let same = at.invariant.limit in
    let e = at_drop_more (λ rest. rest) c.args.bytes.now at.byte-index 0 (grind (arith, common_steps)) in
    record {
      limit = c.in_ok-reading.ensures.limit ∙ same;
      left = takes_one _ _ _ _ (place_of at.self) _ _ (map view at.found.items) _ (place_of c.take.new.self)
          (rw same at c.in_ok-reading.ensures.place)
          (λ others. rw (c.in_ok-reading.ensures.reading, same) at (c.in_ok-push_reading.ensures others))
          (subst (IsLeft c.args.self.now.limit (place_of c.args.self.now) c.args.bytes.now (map view c.args.found.now.items) (place_of at.self) (map view at.found.items)) e
          at.invariant.left);
    }

pub returns-clause-readings : goal.returns-clause-readings
returns-clause-readings c =
    let at = c.loop-byte in
    let e = at_drop_all (λ rest. rest) c.args.bytes.now at.byte-index c.loop-byte-test.false in
    none_read _ _ _ _ (place_of at.self) (map view at.found.items)
    (subst (IsLeft c.args.self.now.limit (place_of c.args.self.now) c.args.bytes.now (map view c.args.found.now.items) (place_of at.self) (map view at.found.items)) e
    at.invariant.left)

pub returns-clause-place : goal.returns-clause-place
returns-clause-place c =
    let at = c.loop-byte in
    let e = at_drop_all (λ rest. rest) c.args.bytes.now at.byte-index c.loop-byte-test.false in
    none_behind _ _ _ _ (place_of at.self) (map view at.found.items)
    (subst (IsLeft c.args.self.now.limit (place_of c.args.self.now) c.args.bytes.now (map view c.args.found.now.items) (place_of at.self) (map view at.found.items)) e
    at.invariant.left)
