use Rattle.std.proofs.Common.{◌≡◌, [], ◌++◌, string_bytes, rules}
use Rattle.listing.specs.Lines.{listing_of}
use Rattle.listing.proofs.Walks.{read_line, walked_none, walked_next}
use Rattle.listing.proofs.listing.listing_of.Goals as goal
use Rattle.listing.proofs.listing.listing_of.Goals.{in-Ok+in_ok-line-in-Ok, in-Err+in_ok-line-in-Err}

-- nothing is read yet
pub loop-read-init : goal.loop-read-init
loop-read-init c =
    let bytes = c.args.bytes.now in
    let reader = c.into_iter-read-iterator.result.reader in
    let none : string_bytes c.new-text.result ≡ [] = search rules in
    let start : reader.place ≡ 0 = search rules in
    (search rules, walked_none bytes reader.place (string_bytes c.new-text.result) start none)

-- one line more
pub loop-read-preserved : goal.loop-read-preserved
loop-read-preserved c =
    let bytes = c.args.bytes.now in
    let r = c.in-Some.read in
    let text = string_bytes c.loop-read.text in
    let pushed : string_bytes c.push_str.new.self ≡ text ++ read_line r =
    elim c.match-read.branch [
      | in-Ok+in_ok-line-in-Ok w ↦ search rules
      | in-Err+in_ok-line-in-Err w ↦ search rules
    ] in
    walked_next r c.loop-read.read-iterator.reader c.next.new.self.reader bytes text _ (listing_of bytes)
    c.in-Some.ensures.steps c.loop-read.invariant.0 pushed c.loop-read.invariant.1
