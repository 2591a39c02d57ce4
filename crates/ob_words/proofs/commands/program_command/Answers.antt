use Rattle.std.proofs.Common.{◌∙◌, ap}
use Rattle.std.proofs.lemmas.Result.{IfOk-weaker}
use Rattle.clap.specs.Words.{App, with_subcommand}
use Rattle.ob_words.specs.Commands.{format_shape, run_shape, audit_shape, drill_shape}
use Rattle.ob_words.proofs.commands.program_command.Goals as goal

pub returns : goal.returns
returns c =
    let one = c.in_ok-command.ensures ∙ ap (λ (a : App). with_subcommand a format_shape) c.bare_program.ensures in
    let two = c.in_ok-command-2.ensures ∙ ap (λ (a : App). with_subcommand a run_shape) one in
    let three = c.in_ok-command-3.ensures ∙ ap (λ (a : App). with_subcommand a audit_shape) two in
    record { app = IfOk-weaker c.with_command-4.result _ _ (λ r h. h ∙ ap (λ (a : App). with_subcommand a drill_shape) three) c.with_command-4.ensures }
