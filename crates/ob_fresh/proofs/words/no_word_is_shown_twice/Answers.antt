use Rattle.ob_fresh.proofs.NoneTwice.{no_word_twice}
use Rattle.ob_fresh.proofs.words.no_word_is_shown_twice.Goals as goal

pub returns : goal.returns
returns c = no_word_twice
