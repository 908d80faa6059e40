use Rattle.dy_cluster.specs.Settings.{setting}
use Rattle.dy_clients.proofs.crews.Crew.run_named.Given as goal

-- of the answers and the sessions is to be said what the client says
abbrev pub ghosts-run_seated : goal.ghosts-run_seated
ghosts-run_seated g a = record {
  told = λ number answer telling. g.C.Client.told
      (setting g.row.J.Denot g.J.Naming.ring g.J.Naming.n g.J.Naming.r
      a.cluster.now.options)
      a.self.now.client.now number answer telling;
}
