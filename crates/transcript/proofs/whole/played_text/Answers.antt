use Rattle.transcript.proofs.whole.played_text.Goals as goal

pub returns-in-Both : goal.returns-in-Both
returns-in-Both c = rw c.in-Both.is c.play_new-in-Both.ensures
