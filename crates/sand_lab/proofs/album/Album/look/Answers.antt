use Rattle.sand_lab.proofs.album.Album.look.Goals as goal

pub returns-clause-picture : goal.returns-clause-picture
returns-clause-picture c = c.get_as.ensures.value
