use Rattle.dy_clients.proofs.staffing.run_opened.Given as goal

-- the book has the name of what was just opened
abbrev pub ghosts-run_named : goal.ghosts-run_named
ghosts-run_named g a = record {
  ring = a.opened.ring;
  n = a.opened.options.n;
  r = a.opened.options.r;
  book = a.opened.blank.book;
  table = a.opened.blank.table;
}
