use Rattle.std.proofs.Common.{◌≡◌, string_bytes}
use Rattle.listing.specs.Lines.{listing_of}
use Rattle.listing.proofs.Walks.{Walked}
use Rattle.listing.proofs.listing.listing_of.Given as goal

-- what is read makes the text so far
abbrev pub invariant-loop-read : goal.invariant-loop-read
invariant-loop-read l =
    (l.read-iterator.reader.bytes.now ≡ l.bytes)
    × Walked l.bytes l.read-iterator.reader.place (string_bytes l.text) (listing_of l.bytes)
