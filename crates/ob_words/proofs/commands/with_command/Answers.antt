use Rattle.std.proofs.Common.{◌∙◌, ap}
use Rattle.std.proofs.lemmas.Result.{IfOk-weaker}
use Rattle.clap.specs.Words.{App, Rule, app_of, with_rule, with_subcommand}
use Rattle.ob_words.proofs.CommandWords.{one_more, all_words}
use Rattle.ob_words.proofs.Locals.{or_false}
use Rattle.ob_words.proofs.commands.with_command.Goals as goal

pub loop-word-init : goal.loop-word-init
loop-word-init c = (c.new-command.ensures.app, c.new-command.ensures.local)

pub loop-word-preserved : goal.loop-word-preserved
loop-word-preserved c =
    let shape = c.in_ok-command.ensures.shape c.arg_of.ensures.local ∙ ap (λ (r : Rule). with_rule (app_of c.loop-word.command) r) c.arg_of.ensures.rule in (
      one_more _ _ _ c.args.words.now c.loop-word.word-index _ c.loop-word-test.true c.loop-word.invariant.0 shape,
      c.in_ok-command.ensures.globals ∙ or_false _ _ c.arg_of.ensures.local ∙ c.loop-word.invariant.1,
    )

pub returns : goal.returns
returns c =
    let whole = all_words _ _ c.args.words.now c.loop-word.word-index c.loop-word-test.false c.loop-word.invariant.0 in
    IfOk-weaker c.subcommand.result _ _ (λ r h. h.shape c.loop-word.invariant.1 ∙ ap (λ (a : App). with_subcommand (app_of c.args.program) a.top) whole) c.subcommand.ensures
