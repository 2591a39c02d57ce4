use Rattle.std.proofs.Common.{◌≡◌, ◌∙◌, ap, true, refl}
use Rattle.clap.specs.Words.{App, Shape, app_of}
use Rattle.clap.specs.Simple.{on_top}
use Rattle.ob_words.proofs.commands.bare_program.Goals as goal

abbrev set : Shape → Shape
set s = record s { no_binary_name = true; disable_help_flag = true; disable_help_subcommand = true; subcommand_required = true }

pub returns : goal.returns
returns c =
    let settings : app_of c.subcommand_required.result ≡ on_top set (app_of c.new.result) =
    rw (c.subcommand_required.ensures, c.disable_help_subcommand.ensures, c.disable_help_flag.ensures, c.no_binary_name.ensures) refl in
    settings ∙ ap (λ (a : App). on_top set a) c.new.ensures.app
