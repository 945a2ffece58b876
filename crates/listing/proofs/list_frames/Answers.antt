use Rattle.std.proofs.Common.{length, string_bytes, arith, rules}
use Rattle.std.specs.Iterator.Adapters.{enumerate_source, enumerate_count}
use Rattle.listing.specs.Text.{listing}
use Rattle.listing.proofs.Captures.{listed_all, listed_more, next_fewer}
use Rattle.listing.proofs.list_frames.Goals as goal

pub loop-index-preserved : goal.loop-index-preserved
loop-index-preserved c =
    let rest = (enumerate_source c.loop-index.index-iterator).rest.now in
    let after = (enumerate_source c.next.new.self).rest.now in
    let next = c.in-Some.ensures.steps in
    let few = next_fewer rest after c.in-Some.captured next.0 in
    let more = listed_more (string_bytes c.loop-index.out) (length c.args.bytes.now) (enumerate_count c.loop-index.index-iterator) rest after (listing c.args.bytes.now)
    c.loop-index.invariant.text c.in-Some.captured c.loop-index.invariant.room next.0 in
    let written = c.in_ok-writeln.ensures.bytes in
    let entry = c.read_entry.ensures in
    record { text = search rules; room = omega (arith, c.loop-index.invariant.room) }

pub returns-clause-text : goal.returns-clause-text
returns-clause-text c =
    let listed = listed_all (string_bytes c.loop-index.out) (length c.args.bytes.now) (enumerate_count c.loop-index.index-iterator)
    (enumerate_source c.loop-index.index-iterator).rest.now (enumerate_source c.next.new.self).rest.now (listing c.args.bytes.now)
    c.loop-index.invariant.text c.in-None.ensures.steps.0 in
    search rules
