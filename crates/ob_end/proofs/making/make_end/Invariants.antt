use Rattle.ob_end.proofs.making.make_end.Given as goal

abbrev pub ghosts-renew : goal.ghosts-renew
ghosts-renew g a = record { name = a.blank.name; parts = a.blank.parts }
