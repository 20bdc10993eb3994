use Rattle.pb_rule.proofs.asking.store_code.Given as goal

abbrev pub ghosts-store_code_as : goal.ghosts-store_code_as
ghosts-store_code_as g a = record { ask = a.ask.now }
