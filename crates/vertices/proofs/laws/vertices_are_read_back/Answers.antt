use Rattle.vertices.proofs.VertexLemmas.{vertex_read}
use Rattle.vertices.proofs.laws.vertices_are_read_back.Goals as goal

-- each column and each row is read back
pub returns : goal.returns
returns c = vertex_read
