-- The graph of a search.
use Rattle.std.specs.Prelude.{List, ℕ}
use Rattle.search.specs.declared.searches.Search.{Search}
use Rattle.search.specs.Graph.{Graph}
use Rattle.search.specs.Pairs.{graph_of}

abbrev pub graph_at : List ℕ → Search → Graph
graph_at prepared s = graph_of prepared s.quest.now s.leads.now
