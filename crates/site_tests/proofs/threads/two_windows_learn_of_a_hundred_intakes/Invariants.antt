use Rattle.site_tests.proofs.threads.two_windows_learn_of_a_hundred_intakes.Given as goal

-- the opening that was just made
abbrev pub ghosts-hundred : goal.ghosts-hundred
ghosts-hundred g a = record { book = a.desk.book }
