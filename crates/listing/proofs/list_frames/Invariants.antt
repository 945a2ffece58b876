use Rattle.std.proofs.Common.{◌≡◌, ◌+◌, ◌-◌, ◌≤◌, ◌++◌, length, string_bytes}
use Rattle.std.specs.Iterator.Adapters.{enumerate_source, enumerate_count}
use Rattle.listing.specs.Text.{lines, listing}
use Rattle.listing.proofs.list_frames.Given as goal

-- what is listed so far, and the lines of what is left
abbrev pub invariant-loop-index : goal.invariant-loop-index
invariant-loop-index l =
    let i = enumerate_count l.index-iterator in
    let rest = (enumerate_source l.index-iterator).rest.now in
    record {
      text : string_bytes l.out ++ lines (length l.bytes - i) (i + 1) rest ≡ listing l.bytes;
      room : i + length rest ≤ length l.bytes;
    }
