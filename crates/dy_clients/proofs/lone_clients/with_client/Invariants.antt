use Rattle.dy_clients.proofs.lone_clients.with_client.Given as goal

-- the book has the name of what was just opened
abbrev pub ghosts-run_lone : goal.ghosts-run_lone
ghosts-run_lone g a = record {
  ring = a.opened.ring;
  n = a.opened.options.n;
  r = a.opened.options.r;
  book = a.opened.blank.book;
  table = a.opened.blank.table;
}
