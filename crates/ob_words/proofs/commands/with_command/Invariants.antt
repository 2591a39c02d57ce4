use Rattle.std.proofs.Common.{◌≡◌, false, take, map}
use Rattle.clap.specs.Words.{app_of}
use Rattle.clap.specs.declared.Command.TheViews.{out-Command}
use Rattle.ob_words.specs.Commands.{rule_for}
use Rattle.ob_words.proofs.CommandWords.{command_with}
use Rattle.ob_words.proofs.commands.with_command.Given as goal

abbrev pub invariant-loop-word : goal.invariant-loop-word
invariant-loop-word l = (app_of l.command ≡ command_with l.fn.name (map rule_for (take l.word-index l.words)))
    × ((out-Command l.command).has_globals ≡ false)
