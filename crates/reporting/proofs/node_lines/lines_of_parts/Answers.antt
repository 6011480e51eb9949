use Rattle.reporting.proofs.Crossing.{crosses}
use Rattle.reporting.proofs.node_lines.lines_of_parts.Goals as goal

pub map_places-requires-sync-F : goal.map_places-requires-sync-F
map_places-requires-sync-F g c κs within = search crosses depth 40
