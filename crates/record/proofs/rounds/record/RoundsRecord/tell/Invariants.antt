use Rattle.std.proofs.Common.{◌≡◌, ◌++◌, drop, vec_items}
use Rattle.record.specs.Rounds.{encode_cards}
use Rattle.record.specs.Table.{all_kept}
use Rattle.record.proofs.rounds.record.RoundsRecord.tell.Given as goal

abbrev pub invariant-loop-card : goal.invariant-loop-card
invariant-loop-card l =
    vec_items l.list ++ encode_cards (all_kept (drop l.card-index l.self.cards)) ≡ encode_cards (all_kept l.self.cards)
