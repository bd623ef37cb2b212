mod Coming
