use Rattle.std.proofs.Common.{sym, subst}
use Rattle.ob_script.specs.Script.{lines_of, AreSound}
use Rattle.ob_script.specs.ScriptViews.{state_of}
use Rattle.ob_script.proofs.Sound.{read_sound}
use Rattle.ob_script.proofs.parsing.parse.Goals as goal

-- all lines are before the end
pub new-requires : goal.new-requires
new-requires c = read_sound c.args.keys (state_of c.read_lines.new.reader) (lines_of c.args.bytes.now) c.in-Ok.ensures.reads

pub returns-in-Ok-clause-script : goal.returns-in-Ok-clause-script
returns-in-Ok-clause-script c = record {
  within = c.in-Ok.ensures.within;
  last = state_of c.read_lines.new.reader;
  reads = c.in-Ok.ensures.reads;
  whole = c.in-Ok.ensures.whole;
  scripts_are = c.new.ensures;
}

pub returns-in-Ok-clause-sound : goal.returns-in-Ok-clause-sound
returns-in-Ok-clause-sound c = subst AreSound (sym c.new.ensures) (read_sound c.args.keys (state_of c.read_lines.new.reader) (lines_of c.args.bytes.now) c.in-Ok.ensures.reads)
