use Rattle.race_search.proofs.search.Search.+visit.Given as goal

abbrev pub decreases-visit : goal.decreases-visit
decreases-visit l = l.depth
