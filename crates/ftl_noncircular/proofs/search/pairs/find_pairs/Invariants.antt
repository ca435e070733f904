use Rattle.ftl_noncircular.proofs.search.pairs.find_pairs.Given as goal

abbrev pub ghost-new : goal.ghost-new
ghost-new g a = g.g

abbrev pub ghost-note_all : goal.ghost-note_all
ghost-note_all g a = g.g

abbrev pub ghost-put_all : goal.ghost-put_all
ghost-put_all g a = g.g
