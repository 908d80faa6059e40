use Rattle.dy_cluster.proofs.marked_works.with_marked_cluster.Given as goal

-- the book has the name of what was just opened
abbrev pub ghosts-run_marked : goal.ghosts-run_marked
ghosts-run_marked g a = record {
  ring = a.opened.ring;
  n = a.opened.options.n;
  r = a.opened.options.r;
  book = a.opened.blank.book;
  table = a.opened.blank.table;
}
