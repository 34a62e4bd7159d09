mod EdgeCells
